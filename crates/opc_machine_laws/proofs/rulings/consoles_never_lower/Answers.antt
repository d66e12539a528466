use Rattle.opc_machine_laws.proofs.Holding.{never_lower}
use Rattle.opc_machine_laws.proofs.rulings.consoles_never_lower.Goals as goal

pub returns : goal.returns
returns c = never_lower
