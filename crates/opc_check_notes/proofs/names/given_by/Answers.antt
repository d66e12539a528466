use Rattle.std.proofs.Common.{[], arith}
use Rattle.opc_check_notes.specs.declared.numbered.NumberedRow.{NumberedRow}
use Rattle.opc_check_notes.specs.Named.{named}
use Rattle.opc_check_notes.proofs.Steps.{found_step}
use Rattle.opc_check_notes.proofs.names.given_by.Goals as goal

pub loop-at-preserved : goal.loop-at-preserved
loop-at-preserved c =
    found_step (λ (at : NumberedRow). named c.args.given at.row) c.args.rows.now c.loop-at.at-index c.at-item.result [] _ _ _
    (omega arith) c.at-item.is c.named.ensures c.loop-at.invariant c.in_ok-push_if.ensures
