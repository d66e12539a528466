use Rattle.std.proofs.Common.{length}
use Rattle.opc_policy_witness.proofs.start.+has_width.Given as goal

abbrev pub decreases-has_width : goal.decreases-has_width
decreases-has_width l = length l.qualifier.now
