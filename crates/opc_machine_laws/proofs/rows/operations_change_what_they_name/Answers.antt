use Rattle.opc_machine_laws.proofs.Removing.{operations_change}
use Rattle.opc_machine_laws.proofs.rows.operations_change_what_they_name.Goals as goal

pub returns : goal.returns
returns c = operations_change
