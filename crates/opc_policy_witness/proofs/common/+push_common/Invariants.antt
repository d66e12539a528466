use Rattle.std.proofs.Common.{length}
use Rattle.opc_policy_witness.proofs.common.+push_common.Given as goal

abbrev pub decreases-push_common : goal.decreases-push_common
decreases-push_common l = length l.mask.now
