-- The lines of notes on rows of tables, which nobody has numbered: they show the row itself.
use Rattle.std.specs.Prelude.{◌++◌, ℕ, List, [], Option, Some, None, codes, decimal}
use Rattle.std.specs.Option.{option_map}
use Rattle.opc_policy_members.specs.declared.row.Row.{Row}
use Rattle.opc_check.specs.declared.form.Form.{Form}
use Rattle.opc_check.specs.declared.form.Form.TheVariants as form
use Rattle.opc_check_notes.specs.Texts.{note_json, note_text}
use Rattle.opc_check_notes.specs.declared.note.Note.{Note}
use Rattle.opc_cli_questions.specs.Noted.{place_of}
use Rattle.opc_cli_questions.specs.ShownRows.{row_of, shown_row}

-- the row that a note is about, if it is about one
abbrev pub fields_of : List Row → (row : Option ℕ) → Option (List ℕ)
fields_of rows None = None
fields_of rows (Some number) = option_map shown_row (row_of rows number)

-- what names it
abbrev pub stored_place : (row : Option ℕ) → (fields : Option (List ℕ)) → List ℕ
stored_place (Some row) (Some fields) = codes " row " ++ (decimal row ++ (codes " (" ++ (fields ++ codes "): ")))
stored_place row fields = place_of [] row

-- the line of a note on a row with these fields
abbrev pub line_with : Form → (fields : Option (List ℕ)) → Note → List ℕ
line_with form.Text fields note = note_text (stored_place note.row fields) note
line_with form.Json fields note = note_json None fields note

abbrev pub stored_line : Form → List Row → Note → List ℕ
stored_line form rows note = line_with form (fields_of rows note.row) note
