use Rattle.std.proofs.Common.{length}
use Rattle.opc_policy_witness.proofs.texts.+push_qualifiers.Given as goal

abbrev pub decreases-push_qualifiers : goal.decreases-push_qualifiers
decreases-push_qualifiers l = length l.pieces.now
