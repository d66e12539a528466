use Rattle.std.proofs.Common.{◌≡◌, map, take}
use Rattle.opc_board.specs.Texts.{device_line}
use Rattle.opc_board.proofs.line.device_lines.Given as goal

abbrev pub invariant-loop-device : goal.invariant-loop-device
invariant-loop-device l = l.lines.items ≡ map device_line (take l.device-index l.devices)
