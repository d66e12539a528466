use Rattle.opc_check_reach.proofs.Worked.{mistyped}
use Rattle.opc_check_reach.proofs.laws.mistyped_are_not_met.Goals as goal

pub returns : goal.returns
returns c = mistyped
