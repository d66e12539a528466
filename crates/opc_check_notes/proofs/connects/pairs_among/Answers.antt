use Rattle.std.proofs.Common.{[], arith}
use Rattle.opc_check_notes.specs.declared.numbered.NumberedRow.{NumberedRow}
use Rattle.opc_check_notes.specs.Connects.{pair}
use Rattle.opc_check_notes.proofs.Steps.{found_step}
use Rattle.opc_check_notes.proofs.connects.pairs_among.Goals as goal

pub loop-at-preserved : goal.loop-at-preserved
loop-at-preserved c =
    found_step (λ (at : NumberedRow). pair c.args.side at.row) c.args.rows.now c.loop-at.at-index c.at-item.result [] _ _ _
    (omega arith) c.at-item.is c.pair.ensures c.loop-at.invariant c.in_ok-push_if.ensures
