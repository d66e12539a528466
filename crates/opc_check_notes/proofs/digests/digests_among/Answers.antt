use Rattle.std.proofs.Common.{arith}
use Rattle.opc_check_notes.specs.Digests.{digest_at}
use Rattle.opc_check_notes.specs.First.{paired}
use Rattle.opc_check_notes.specs.declared.numbered.NumberedRow.{NumberedRow}
use Rattle.opc_check_notes.proofs.Steps.{first_step}
use Rattle.opc_check_notes.proofs.digests.digests_among.Goals as goal

pub loop-at-preserved : goal.loop-at-preserved
loop-at-preserved c = λ q.
    first_step (λ (at : NumberedRow). paired q (digest_at at.row)) c.args.rows.now c.loop-at.at-index c.at-item.result _ _
    (omega arith) c.at-item.is (c.loop-at.invariant q) (c.in_ok-keep_row.ensures q)
