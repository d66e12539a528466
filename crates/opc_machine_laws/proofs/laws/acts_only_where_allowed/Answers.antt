use Rattle.opc_machine_laws.proofs.Acting.{only_where}
use Rattle.opc_machine_laws.proofs.laws.acts_only_where_allowed.Goals as goal

pub returns : goal.returns
returns c = only_where
