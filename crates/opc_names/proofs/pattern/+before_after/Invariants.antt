use Rattle.std.proofs.Common.{length}
use Rattle.opc_names.proofs.pattern.+before_after.Given as goal

abbrev pub decreases-before_after : goal.decreases-before_after
decreases-before_after l = length l.ours.now
