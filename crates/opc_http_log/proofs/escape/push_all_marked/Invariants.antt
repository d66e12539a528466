use Rattle.std.proofs.Common.{◌≡◌, ◌++◌, take}
use Rattle.std.specs.List.{flat_map}
use Rattle.opc_http_log.specs.Escapes.{marked}
use Rattle.opc_http_log.proofs.escape.push_all_marked.Given as goal

abbrev pub invariant-loop-byte : goal.invariant-loop-byte
invariant-loop-byte l = l.line.items ≡ l.fn.line.items ++ flat_map marked (take l.byte-index l.text)
