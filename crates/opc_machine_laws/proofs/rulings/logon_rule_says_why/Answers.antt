use Rattle.opc_machine_laws.proofs.Reasons.{at_logon}
use Rattle.opc_machine_laws.proofs.rulings.logon_rule_says_why.Goals as goal

pub returns : goal.returns
returns c = at_logon
