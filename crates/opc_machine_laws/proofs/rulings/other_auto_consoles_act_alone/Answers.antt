use Rattle.opc_machine_laws.proofs.Consoles.{for_nobody}
use Rattle.opc_machine_laws.proofs.rulings.other_auto_consoles_act_alone.Goals as goal

pub returns : goal.returns
returns c = for_nobody
