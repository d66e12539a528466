use Rattle.std.proofs.Common.{◌≡◌, length, take}
use Rattle.opc_store_sql.specs.Order.{Rises}
use Rattle.opc_policy_members.specs.Profiles.{profile_cmp}
use Rattle.opc_store_whole_policy.proofs.policy.profiles_of.Given as goal

abbrev pub invariant-loop-profile : goal.invariant-loop-profile
invariant-loop-profile l = Rises profile_cmp l.fn.list.items → l.profiles ≡ take (length l.yielded) l.fn.list.items
