use Rattle.opc_machine_laws.proofs.Consoles.{for_their_own}
use Rattle.opc_machine_laws.proofs.rulings.auto_consoles_act_for_their_own.Goals as goal

pub returns : goal.returns
returns c = for_their_own
