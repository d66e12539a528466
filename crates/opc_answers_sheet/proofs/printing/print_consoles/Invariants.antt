use Rattle.std.proofs.Common.{flat_map, take}
use Rattle.std.specs.Io.KnownBytes.{Appends}
use Rattle.opc_answers_sheet.specs.Consoles.{console_row}
use Rattle.opc_answers_sheet.proofs.printing.print_consoles.Given as goal

abbrev pub invariant-loop-console : goal.invariant-loop-console
invariant-loop-console g l =
    Appends (g.W.Write.contents l.fn.output) (g.W.Write.contents l.output)
    (flat_map (console_row l.room.policy l.room.board) (take l.console-index l.console-items))
