use Rattle.std.proofs.Common.{arith, ap, ◌∙◌}
use Rattle.std.specs.BTreeSet.{insert_key}
use Rattle.opc_answers_diff.specs.contracts.row_place.RowPlaceOrd.TheImpl.{ghosts}
use Rattle.opc_answers_diff.proofs.Rows.{places_more}
use Rattle.opc_answers_diff.proofs.row_changes.add_places.Goals as goal

pub loop-row-preserved : goal.loop-row-preserved
loop-row-preserved c = places_more c.args.rows.now c.loop-row.row-index c.row-item.result _ _ _ (omega arith)
    c.row-item.is c.loop-row.invariant
    (c.in_ok-insert.ensures.keys ∙ ap (insert_key ghosts.cmp c.loop-row.places.keys) c.place_of.ensures)
