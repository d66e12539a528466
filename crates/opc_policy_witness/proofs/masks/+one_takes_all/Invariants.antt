use Rattle.std.proofs.Common.{length}
use Rattle.opc_policy_witness.proofs.masks.+one_takes_all.Given as goal

abbrev pub decreases-one_takes_all : goal.decreases-one_takes_all
decreases-one_takes_all l = length l.masks.now
