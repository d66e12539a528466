use Rattle.std.proofs.Common.{take}
use Rattle.opc_policy_witness.specs.Ends.{AreNearThese}
use Rattle.opc_policy_witness.proofs.ends.near_these.Given as goal

abbrev pub invariant-loop-pattern : goal.invariant-loop-pattern
invariant-loop-pattern l = AreNearThese l.include l.near.items (take l.pattern-index l.patterns)
