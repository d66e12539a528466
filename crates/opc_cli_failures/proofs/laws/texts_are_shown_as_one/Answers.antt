use Rattle.opc_cli_failures.proofs.Showing.{join}
use Rattle.opc_cli_failures.proofs.laws.texts_are_shown_as_one.Goals as goal

pub returns : goal.returns
returns c = join
