use Rattle.opc_machine_laws.proofs.Reasons.{logon_rulings_say_why}
use Rattle.opc_machine_laws.proofs.rulings.logon_rulings_say_why.Goals as goal

pub returns : goal.returns
returns c = logon_rulings_say_why
