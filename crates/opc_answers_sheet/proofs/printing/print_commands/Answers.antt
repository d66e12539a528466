use Rattle.std.proofs.Common.{arith, length}
use Rattle.opc_answers_sheet.proofs.Parts.{no_rows, on_ok, rows_last, rows_more}
use Rattle.opc_answers_sheet.proofs.printing.print_commands.Goals as goal

pub loop-place-init : goal.loop-place-init
loop-place-init g c = no_rows _ _ _

pub loop-place-preserved : goal.loop-place-preserved
loop-place-preserved g c = rows_more c.args.room.now.policy c.args.room.now.board _ _ _ _ c.loop-place.invariant c.in_ok-print_rows_at.ensures.text

pub returns-clause-text : goal.returns-clause-text
returns-clause-text g c =
    let policy = c.args.room.now.policy in
    let board = c.args.room.now.board in
    on_ok c.print_rows_at-2.result
    (λ last. rows_last policy board (length c.args.patterns.now) _ _ _ _ _ c.loop-place.invariant last (omega arith) (omega arith))
    c.print_rows_at-2.ensures.text
