use Rattle.opc_machine_laws.proofs.Consoles.{others_to_nobody}
use Rattle.opc_machine_laws.proofs.rulings.others_are_accounted_to_nobody.Goals as goal

pub returns : goal.returns
returns c = others_to_nobody
