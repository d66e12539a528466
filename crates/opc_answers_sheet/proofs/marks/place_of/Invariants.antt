use Rattle.std.proofs.Common.{◌≡◌, ◌<◌, drop}
use Rattle.opc_answers_sheet.specs.Marks.{place_after}
use Rattle.opc_answers_sheet.proofs.marks.place_of.Given as goal

abbrev pub invariant-loop-byte : goal.invariant-loop-byte
invariant-loop-byte l = (l.place < 64) × (place_after l.place (drop l.byte-index l.bytes) ≡ place_after 0 l.bytes)
