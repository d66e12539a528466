use Rattle.std.proofs.Common.{◌≡◌, take}
use Rattle.opc_answers_diff.specs.RowChanges.{places_with}
use Rattle.opc_answers_diff.proofs.row_changes.add_places.Given as goal

abbrev pub invariant-loop-row : goal.invariant-loop-row
invariant-loop-row l = l.places.keys ≡ places_with (take l.row-index l.rows) l.fn.places.keys
