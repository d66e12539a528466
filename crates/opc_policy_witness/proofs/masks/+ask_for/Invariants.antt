use Rattle.std.proofs.Common.{length}
use Rattle.opc_policy_witness.proofs.masks.+ask_for.Given as goal

abbrev pub decreases-ask_for : goal.decreases-ask_for
decreases-ask_for l = length l.masks.now
