use Rattle.std.proofs.Common.{length}
use Rattle.opc_policy_witness.proofs.pieces.+size_of.Given as goal

abbrev pub decreases-size_of : goal.decreases-size_of
decreases-size_of l = length l.pieces.now
