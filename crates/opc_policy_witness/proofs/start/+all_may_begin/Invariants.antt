use Rattle.std.proofs.Common.{length}
use Rattle.opc_policy_witness.proofs.start.+all_may_begin.Given as goal

abbrev pub decreases-all_may_begin : goal.decreases-all_may_begin
decreases-all_may_begin l = length l.patterns.now
