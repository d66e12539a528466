use Rattle.std.proofs.Common.{◌≡◌, string_bytes, take}
use Rattle.std.specs.List.{flat_map}
use Rattle.opc_cli_questions.specs.Noted.{note_line}
use Rattle.opc_cli_questions.proofs.noted.lines_on.Given as goal

abbrev pub invariant-loop-note : goal.invariant-loop-note
invariant-loop-note l = string_bytes l.told ≡ flat_map (note_line l.form l.lines) (take l.note-index l.list)
