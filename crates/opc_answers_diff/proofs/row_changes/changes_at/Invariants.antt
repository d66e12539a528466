use Rattle.std.proofs.Common.{◌≡◌, filter, map, take}
use Rattle.opc_answers_diff.specs.RowChanges.{change_at, differs}
use Rattle.opc_answers_diff.proofs.row_changes.changes_at.Given as goal

abbrev pub invariant-loop-place : goal.invariant-loop-place
invariant-loop-place l = l.list.items ≡ filter differs (map (change_at l.before l.after) (take l.place-index l.places))
