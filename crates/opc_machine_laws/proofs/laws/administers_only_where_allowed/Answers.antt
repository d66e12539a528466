use Rattle.opc_machine_laws.proofs.Changing.{administers_only}
use Rattle.opc_machine_laws.proofs.laws.administers_only_where_allowed.Goals as goal

pub returns : goal.returns
returns c = administers_only
