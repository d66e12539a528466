use Rattle.std.proofs.Common.{length}
use Rattle.opc_policy_witness.proofs.ends.+may_share_ends.Given as goal

abbrev pub decreases-may_share_ends : goal.decreases-may_share_ends
decreases-may_share_ends l = length l.others.now
