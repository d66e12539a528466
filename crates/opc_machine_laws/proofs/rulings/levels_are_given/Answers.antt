use Rattle.opc_machine_laws.proofs.Holding.{levels_given}
use Rattle.opc_machine_laws.proofs.rulings.levels_are_given.Goals as goal

pub returns : goal.returns
returns c = levels_given
