use Rattle.std.proofs.Common.{length}
use Rattle.opc_policy_deciders.proofs.pairs.+beginning.Given as goal

abbrev pub decreases-beginning : goal.decreases-beginning
decreases-beginning l = length l.include.now
