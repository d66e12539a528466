use Rattle.opc_cli_script.proofs.Spelled.{spelled}
use Rattle.opc_cli_script.proofs.laws.events_are_spelled.Goals as goal

pub returns : goal.returns
returns c = spelled
