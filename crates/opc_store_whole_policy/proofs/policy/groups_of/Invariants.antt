use Rattle.std.proofs.Common.{◌≡◌, take}
use Rattle.opc_store_sql.specs.Order.{Rises}
use Rattle.opc_policy_members.specs.Members.{name_cmp}
use Rattle.opc_store_whole_policy.proofs.policy.groups_of.Given as goal

abbrev pub invariant-loop-name : goal.invariant-loop-name
invariant-loop-name l = Rises name_cmp l.list → l.groups ≡ take l.name-index l.list
