use Rattle.opc_machine_laws.proofs.Logging.{off_only_where}
use Rattle.opc_machine_laws.proofs.laws.logs_off_only_where_somebody_is_on.Goals as goal

pub returns : goal.returns
returns c = off_only_where
