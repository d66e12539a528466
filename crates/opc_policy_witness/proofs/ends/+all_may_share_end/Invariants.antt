use Rattle.std.proofs.Common.{length}
use Rattle.opc_policy_witness.proofs.ends.+all_may_share_end.Given as goal

abbrev pub decreases-all_may_share_end : goal.decreases-all_may_share_end
decreases-all_may_share_end l = length l.patterns.now
