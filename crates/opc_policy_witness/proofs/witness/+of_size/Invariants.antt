use Rattle.std.proofs.Common.{length}
use Rattle.opc_policy_witness.proofs.Placing.{NoneBelow}
use Rattle.opc_policy_witness.proofs.witness.+of_size.Given as goal

abbrev pub decreases-of_size : goal.decreases-of_size
decreases-of_size l = length l.form.now

abbrev pub invariant-loop-width : goal.invariant-loop-width
invariant-loop-width l = NoneBelow l.pieces l.include l.exclude l.form l.size l.width
