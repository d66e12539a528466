use Rattle.opc_machine_laws.proofs.Reasons.{rulings_say_why}
use Rattle.opc_machine_laws.proofs.rulings.rulings_say_why.Goals as goal

pub returns : goal.returns
returns c = rulings_say_why
