use Rattle.opc_machine_laws.proofs.Consoles.{who_is_on_first}
use Rattle.opc_machine_laws.proofs.rulings.who_is_on_comes_first.Goals as goal

pub returns : goal.returns
returns c = who_is_on_first
