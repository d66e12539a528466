use Rattle.opc_answers_diff.proofs.Rows.{rows_so}
use Rattle.opc_answers_diff.proofs.row_changes.row_changes.Goals as goal

pub returns : goal.returns
returns c =
    rows_so c.args.before.now c.args.after.now c.in_ok-old.old c.in_ok-new.new c.in_ok-places.places.items c.in_ok-list.list.items
    c.in_ok-old.ensures c.in_ok-new.ensures c.in_ok-places.ensures (rw c.as_slice.ensures.value at c.in_ok-list.ensures)
