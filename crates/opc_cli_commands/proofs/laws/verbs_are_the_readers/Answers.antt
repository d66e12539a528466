use Rattle.opc_cli_commands.proofs.Worked.{verbs_are_the_readers}
use Rattle.opc_cli_commands.proofs.laws.verbs_are_the_readers.Goals as goal

pub returns : goal.returns
returns c = verbs_are_the_readers
