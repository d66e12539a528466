use Rattle.std.proofs.Common.{◌≡◌, ◌++◌, map, take}
use Rattle.opc_store_whole_policy.proofs.rows.add_all.Given as goal

abbrev pub invariant-loop-member : goal.invariant-loop-member
invariant-loop-member g l = l.rows.items ≡ l.fn.rows.items ++ map g.X.Written.row_of (take l.member-index l.members)
