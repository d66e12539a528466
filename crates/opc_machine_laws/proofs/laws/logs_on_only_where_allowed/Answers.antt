use Rattle.opc_machine_laws.proofs.Logging.{on_only_where}
use Rattle.opc_machine_laws.proofs.laws.logs_on_only_where_allowed.Goals as goal

pub returns : goal.returns
returns c = on_only_where
