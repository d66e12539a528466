use Rattle.std.proofs.Common.{◌≡◌, take}
use Rattle.opc_names_keys.proofs.past.joined.Given as goal

abbrev pub invariant-loop-byte : goal.invariant-loop-byte
invariant-loop-byte l = l.bytes.items ≡ take l.byte-index l.common
