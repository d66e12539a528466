use Rattle.opc_machine_laws.proofs.Logging.{on_wherever}
use Rattle.opc_machine_laws.proofs.laws.logs_on_wherever_allowed.Goals as goal

pub returns : goal.returns
returns c = on_wherever
