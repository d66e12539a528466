use Rattle.std.proofs.Common.{◌≡◌, take}
use Rattle.std.specs.List.{flat_map}
use Rattle.opc_http_log.specs.Escapes.{printable}
use Rattle.opc_http_log.proofs.escape.printable.Given as goal

abbrev pub invariant-loop-byte : goal.invariant-loop-byte
invariant-loop-byte l = l.line.items ≡ flat_map printable (take l.byte-index l.bytes)
