use Rattle.std.proofs.Common.{◌≡◌, take}
use Rattle.opc_store_sql.specs.Order.{Rises}
use Rattle.opc_policy_members.specs.Members.{connect_cmp}
use Rattle.opc_store_whole_policy.proofs.policy.connects_of.Given as goal

abbrev pub invariant-loop-connect : goal.invariant-loop-connect
invariant-loop-connect l = Rises connect_cmp l.list → l.connects ≡ take l.connect-index l.list
