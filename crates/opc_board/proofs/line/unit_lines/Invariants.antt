use Rattle.std.proofs.Common.{◌≡◌, map, take}
use Rattle.opc_board.specs.Texts.{unit_line}
use Rattle.opc_board.proofs.line.unit_lines.Given as goal

abbrev pub invariant-loop-unit : goal.invariant-loop-unit
invariant-loop-unit l = l.lines.items ≡ map unit_line (take l.unit-index l.units)
