use Rattle.opc_check_reach.proofs.Worked.{base_patterns}
use Rattle.opc_check_reach.proofs.laws.base_patterns_are_met.Goals as goal

pub returns : goal.returns
returns c = base_patterns
