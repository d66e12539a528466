use Rattle.std.proofs.Common.{◌≡◌, take}
use Rattle.std.specs.BTreeMap.{get}
use Rattle.std.specs.Option.{option_or}
use Rattle.opc_answers_diff.specs.RowChanges.{row_at}
use Rattle.opc_answers_diff.specs.contracts.row_place.RowPlaceOrd.TheImpl.{ghosts}
use Rattle.opc_answers_diff.specs.declared.row_place.RowPlace.{RowPlace}
use Rattle.opc_answers_diff.proofs.row_changes.put_rows.Given as goal

abbrev pub invariant-loop-row : goal.invariant-loop-row
invariant-loop-row l = (q : RowPlace) → get ghosts.cmp l.map q
    ≡ option_or (row_at (take l.row-index l.rows) q) (get ghosts.cmp l.fn.map q)
