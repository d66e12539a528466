use Rattle.opc_machine_laws.proofs.RowObstacles.{consoles_defined}
use Rattle.opc_machine_laws.proofs.rows.consoles_are_defined.Goals as goal

pub returns : goal.returns
returns c = consoles_defined
