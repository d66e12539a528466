use Rattle.std.proofs.Common.{arith}
use Rattle.opc_check_notes.specs.Notes.{note_at}
use Rattle.opc_check_notes.proofs.Steps.{found_step}
use Rattle.opc_check_notes.proofs.notes.add_at_rows.Goals as goal

pub loop-at-preserved : goal.loop-at-preserved
loop-at-preserved c =
    found_step (note_at c.args.known.now c.args.code) c.args.rows.now c.loop-at.at-index c.at-item.result _ _ _ _
    (omega arith) c.at-item.is c.in_ok-note_at.ensures c.loop-at.invariant c.in_ok-add_found.ensures
