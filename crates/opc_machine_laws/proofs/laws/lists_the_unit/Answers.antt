use Rattle.opc_machine_laws.proofs.Displaying.{the_unit}
use Rattle.opc_machine_laws.proofs.laws.lists_the_unit.Goals as goal

pub returns : goal.returns
returns c = the_unit
