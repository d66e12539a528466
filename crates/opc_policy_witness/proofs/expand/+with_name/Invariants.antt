use Rattle.std.proofs.Common.{length}
use Rattle.opc_policy_witness.proofs.expand.+with_name.Given as goal

abbrev pub decreases-with_name : goal.decreases-with_name
decreases-with_name l = length l.qualifier.now
