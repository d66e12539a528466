use Rattle.std.proofs.Common.{◌≡◌, Ok, take}
use Rattle.opc_policy_members.specs.Taken.{policy_after}
use Rattle.opc_policy_members.proofs.policy.Policy.take_all.Given as goal

abbrev pub invariant-loop-at : goal.invariant-loop-at
invariant-loop-at l = policy_after (take l.at l.rows) l.fn.self ≡ Ok l.self
