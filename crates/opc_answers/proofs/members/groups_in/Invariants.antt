use Rattle.std.proofs.Common.{◌≡◌, map, take}
use Rattle.opc_policy_members.specs.declared.connect.Connect.{Connect}
use Rattle.opc_answers.proofs.members.groups_in.Given as goal

abbrev pub invariant-loop-connect : goal.invariant-loop-connect
invariant-loop-connect l = l.groups ≡ map (λ (c : Connect). c.group) (take l.connect-index l.connect-items)
