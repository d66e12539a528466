use Rattle.std.proofs.Common.{◌≡◌, map, take}
use Rattle.opc_board.specs.Texts.{console_line}
use Rattle.opc_board.proofs.line.console_lines.Given as goal

abbrev pub invariant-loop-console : goal.invariant-loop-console
invariant-loop-console l = l.lines.items ≡ map console_line (take l.console-index l.consoles)
