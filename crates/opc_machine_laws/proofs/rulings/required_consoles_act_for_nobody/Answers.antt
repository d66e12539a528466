use Rattle.opc_machine_laws.proofs.Consoles.{required_for_nobody}
use Rattle.opc_machine_laws.proofs.rulings.required_consoles_act_for_nobody.Goals as goal

pub returns : goal.returns
returns c = required_for_nobody
