use Rattle.opc_machine_laws.proofs.Displaying.{every_unit}
use Rattle.opc_machine_laws.proofs.laws.lists_every_unit.Goals as goal

pub returns : goal.returns
returns c = every_unit
