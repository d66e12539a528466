use Rattle.opc_import.proofs.CutRows.{Begins, begins_marked, begins_unmarked, extent_few, extent_same}
use Rattle.opc_import.proofs.extent.extent_of.Goals.{then-starts_with, else-starts_with}
use Rattle.opc_import.proofs.extent.extent_of.Goals as goal

pub returns-clause-same : goal.returns-clause-same
returns-clause-same c =
    let text = c.args.text.now in
    let begins : Begins text c.if-starts_with.start = elim c.if-starts_with.branch [
      | then-starts_with w ↦ begins_marked text _ _ w.start-is c.starts_with.ensures.value w.if-starts_with.true
      | else-starts_with w ↦ begins_unmarked text _ _ w.start-is c.starts_with.ensures.value w.if-starts_with.false
    ] in
    extent_same text c.if-starts_with.start c.length_read-length.result begins c.length_read-length.ensures.alike

pub returns-clause-few : goal.returns-clause-few
returns-clause-few c =
    let text = c.args.text.now in
    let begins : Begins text c.if-starts_with.start = elim c.if-starts_with.branch [
      | then-starts_with w ↦ begins_marked text _ _ w.start-is c.starts_with.ensures.value w.if-starts_with.true
      | else-starts_with w ↦ begins_unmarked text _ _ w.start-is c.starts_with.ensures.value w.if-starts_with.false
    ] in
    extent_few text c.if-starts_with.start c.length_read-length.result begins c.length_read-length.ensures.few
