use Rattle.std.proofs.Common.{length}
use Rattle.opc_names_keys.proofs.past.+obstacle.Given as goal

abbrev pub decreases-obstacle : goal.decreases-obstacle
decreases-obstacle l = length l.key.now
