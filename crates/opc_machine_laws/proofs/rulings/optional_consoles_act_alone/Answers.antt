use Rattle.opc_machine_laws.proofs.Consoles.{optional_for_nobody}
use Rattle.opc_machine_laws.proofs.rulings.optional_consoles_act_alone.Goals as goal

pub returns : goal.returns
returns c = optional_for_nobody
