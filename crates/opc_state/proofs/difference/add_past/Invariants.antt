use Rattle.std.proofs.Common.{◌≡◌, ◌++◌, map, take}
use Rattle.opc_state.proofs.difference.add_past.Given as goal

abbrev pub invariant-loop-row : goal.invariant-loop-row
invariant-loop-row g l = l.edits.items ≡ l.fn.edits.items ++ map g.R.Past.added (take l.row-index l.rows)
