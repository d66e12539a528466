use Rattle.opc_machine_laws.proofs.RowObstacles.{never_delete}
use Rattle.opc_machine_laws.proofs.rows.rows_never_delete.Goals as goal

pub returns : goal.returns
returns c = never_delete
