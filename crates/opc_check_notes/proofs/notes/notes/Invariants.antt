use Rattle.std.proofs.Common.{◌≡◌, take}
use Rattle.std.specs.List.{flat_map}
use Rattle.opc_check_notes.specs.Effect.{in_effect}
use Rattle.opc_check_notes.specs.Notes.{notes_of}
use Rattle.opc_check_notes.proofs.notes.notes.Given as goal

abbrev pub invariant-loop-code : goal.invariant-loop-code
invariant-loop-code l = l.list ≡ flat_map (notes_of (in_effect 1 l.rows)) (take l.code-index l.code-items)
