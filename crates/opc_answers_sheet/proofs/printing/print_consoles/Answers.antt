use Rattle.std.proofs.Common.{arith}
use Rattle.std.proofs.KnownBytes.{Appends-nil}
use Rattle.opc_answers_sheet.specs.Consoles.{console_row}
use Rattle.opc_answers_sheet.proofs.Parts.{printed_more}
use Rattle.opc_answers_sheet.proofs.printing.print_consoles.Goals as goal

pub loop-console-init : goal.loop-console-init
loop-console-init g c = Appends-nil (g.W.Write.contents c.args.output.now)

pub loop-console-preserved : goal.loop-console-preserved
loop-console-preserved g c =
    printed_more (console_row c.args.room.now.policy c.args.room.now.board) c.as_slice-console-items.result.now c.loop-console.console-index
    c.console-item.result _ _ _ (omega arith) c.console-item.is c.loop-console.invariant c.in_ok-print_console.ensures.text
