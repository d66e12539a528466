use Rattle.std.proofs.Common.{◌≡◌, take}
use Rattle.opc_store_sql.specs.Order.{Rises}
use Rattle.opc_policy_members.specs.Members.{user_cmp}
use Rattle.opc_store_whole_policy.proofs.policy.users_of.Given as goal

abbrev pub invariant-loop-user : goal.invariant-loop-user
invariant-loop-user l = Rises user_cmp l.list → l.users ≡ take l.user-index l.list
