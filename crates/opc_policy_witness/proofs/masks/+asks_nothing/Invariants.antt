use Rattle.std.proofs.Common.{length}
use Rattle.opc_policy_witness.proofs.masks.+asks_nothing.Given as goal

abbrev pub decreases-asks_nothing : goal.decreases-asks_nothing
decreases-asks_nothing l = length l.mask.now
