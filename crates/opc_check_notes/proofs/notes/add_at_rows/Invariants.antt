use Rattle.std.proofs.Common.{◌≡◌, ◌++◌, take}
use Rattle.std.specs.Prelude.{filter_map}
use Rattle.opc_check_notes.specs.Notes.{note_at}
use Rattle.opc_check_notes.proofs.notes.add_at_rows.Given as goal

abbrev pub invariant-loop-at : goal.invariant-loop-at
invariant-loop-at l = l.notes ≡ l.fn.notes ++ filter_map (note_at l.known l.code) (take l.at-index l.rows)
