use Rattle.std.proofs.Common.{length}
use Rattle.opc_policy_witness.proofs.start.+may_begin.Given as goal

abbrev pub decreases-may_begin : goal.decreases-may_begin
decreases-may_begin l = length l.pieces.now
