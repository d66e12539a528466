use Rattle.std.proofs.Common.{length}
use Rattle.opc_policy_witness.proofs.masks.+one_is_over.Given as goal

abbrev pub decreases-one_is_over : goal.decreases-one_is_over
decreases-one_is_over l = length l.masks.now
