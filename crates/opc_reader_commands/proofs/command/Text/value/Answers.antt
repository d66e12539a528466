use Rattle.std.proofs.Common.{◌∙◌, string_bytes}
use Rattle.opc_reader_commands.proofs.Quoted.{said}
use Rattle.opc_reader_commands.proofs.command.Text.value.Goals as goal

pub returns-clause-says : goal.returns-clause-says
returns-clause-says c = said string_bytes c.value_of.result _ _ (c.as_bytes.ensures.value ∙ c.text.ensures.text) c.value_of.ensures
