use Rattle.opc_machine_laws.proofs.Logging.{off_wherever}
use Rattle.opc_machine_laws.proofs.laws.logs_off_wherever_somebody_is_on.Goals as goal

pub returns : goal.returns
returns c = off_wherever
