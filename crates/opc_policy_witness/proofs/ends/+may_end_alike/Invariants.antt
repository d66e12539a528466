use Rattle.std.proofs.Common.{length}
use Rattle.opc_policy_witness.proofs.ends.+may_end_alike.Given as goal

abbrev pub decreases-may_end_alike : goal.decreases-may_end_alike
decreases-may_end_alike l = length l.pattern.now
