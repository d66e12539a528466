use Rattle.std.proofs.Common.{length}
use Rattle.opc_policy_witness.proofs.masks.+one_takes_behind.Given as goal

abbrev pub decreases-one_takes_behind : goal.decreases-one_takes_behind
decreases-one_takes_behind l = length l.masks.now
