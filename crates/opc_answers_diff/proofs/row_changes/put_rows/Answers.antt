use Rattle.std.proofs.Common.{arith}
use Rattle.std.specs.BTreeMap.{get}
use Rattle.opc_answers_diff.specs.contracts.row_place.RowPlaceOrd.TheImpl.{ghosts}
use Rattle.opc_answers_diff.proofs.Rows.{row_put}
use Rattle.opc_answers_diff.proofs.row_changes.put_rows.Goals as goal

pub loop-row-preserved : goal.loop-row-preserved
loop-row-preserved c = λ q.
    row_put c.args.rows.now c.loop-row.row-index c.row-item.result q c.place_of.result (get ghosts.cmp c.args.map.now)
    (get ghosts.cmp c.loop-row.map) (get ghosts.cmp c.insert.new.self) (omega arith) c.row-item.is c.place_of.ensures
    (c.loop-row.invariant q) (c.in_ok-insert.ensures.updates.0 q)
