use Rattle.std.proofs.Common.{◌≡◌, string_bytes, take}
use Rattle.std.specs.List.{flat_map}
use Rattle.opc_cli_questions.specs.StoredNotes.{stored_line}
use Rattle.opc_cli_questions.proofs.stored_notes.stored_lines.Given as goal

abbrev pub invariant-loop-note : goal.invariant-loop-note
invariant-loop-note l = string_bytes l.told ≡ flat_map (stored_line l.form l.rows) (take l.note-index l.list)
