use Rattle.std.proofs.Common.{◌≡◌, ◌++◌, None, replicate}
use Rattle.opc_policy_witness.proofs.expand.with_open.Given as goal

abbrev pub invariant-loop : goal.invariant-loop
invariant-loop l = l.mask.items ≡ l.head ++ replicate l.counter None
