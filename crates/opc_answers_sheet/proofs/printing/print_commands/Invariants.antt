use Rattle.opc_answers_sheet.specs.Printed.{PrintsRowsUpTo}
use Rattle.opc_answers_sheet.proofs.printing.print_commands.Given as goal

abbrev pub invariant-loop-place : goal.invariant-loop-place
invariant-loop-place g l = PrintsRowsUpTo l.room.policy l.room.board l.place (g.W.Write.contents l.fn.output) (g.W.Write.contents l.output)
