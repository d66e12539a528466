use Rattle.opc_policy_witness.proofs.Placing.{NoneSmaller}
use Rattle.opc_policy_witness.proofs.witness.shortest.Given as goal

abbrev pub invariant-loop-size : goal.invariant-loop-size
invariant-loop-size l = NoneSmaller l.form l.include l.exclude l.size
