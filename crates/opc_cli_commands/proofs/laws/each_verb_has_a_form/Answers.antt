use Rattle.opc_cli_commands.proofs.Worked.{verbs_have_forms}
use Rattle.opc_cli_commands.proofs.laws.each_verb_has_a_form.Goals as goal

pub returns : goal.returns
returns c = verbs_have_forms
