use Rattle.opc_check_reach.proofs.Worked.{stars}
use Rattle.opc_check_reach.proofs.laws.stars_are_met.Goals as goal

pub returns : goal.returns
returns c = stars
