use Rattle.std.proofs.Common.{length}
use Rattle.opc_policy_witness.proofs.ends.+may_end.Given as goal

abbrev pub decreases-may_end : goal.decreases-may_end
decreases-may_end l = length l.pattern.now
