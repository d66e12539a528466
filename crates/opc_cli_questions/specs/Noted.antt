-- The notes on a file that can be loaded, without those that are allowed.
use Rattle.std.specs.Prelude.{
  ◌==◌,
  ◌&&◌,
  ◌||◌,
  ◌++◌,
  ℕ,
  Bool,
  false,
  List,
  [],
  ◌∷◌,
  Option,
  Some,
  None,
  codes,
  filter,
  not,
  slice_get,
}
use Rattle.std.specs.Option.{option_map_or}
use Rattle.opc_policy_members.specs.declared.row.Row.{Row}
use Rattle.opc_check_notes.specs.Notes.{notes}
use Rattle.opc_check_notes.specs.Texts.{code_of, code_text, note_json, note_text}
use Rattle.opc_check_notes.specs.declared.note.Note.{Note}
use Rattle.opc_check.specs.RowLines.{row_place}
use Rattle.opc_check.specs.declared.form.Form.{Form}
use Rattle.opc_check.specs.declared.form.Form.TheVariants as form

abbrev pub is_of : List ℕ → (n tens ones : ℕ) → Bool
is_of (first ∷ second ∷ third ∷ []) n tens ones = (first == n) && ((second == tens) && (third == ones))
is_of code n tens ones = false

-- whether a code is among codes with commas between them
abbrev pub has_code : (code text : List ℕ) → Bool
has_code code (n ∷ tens ∷ ones ∷ []) = is_of code n tens ones
has_code code (n ∷ tens ∷ ones ∷ comma ∷ rest) = is_of code n tens ones || has_code code rest
has_code code text = false

abbrev pub is_allowed : (allowed : Option (List ℕ)) → List ℕ → Bool
is_allowed allowed code = option_map_or (has_code code) allowed false

abbrev pub is_kept : (allowed : Option (List ℕ)) → Note → Bool
is_kept allowed note = not (is_allowed allowed (code_text (code_of note.finding)))

-- the notes that are reported
abbrev pub kept_of : (allowed : Option (List ℕ)) → List Row → List Note
kept_of allowed rows = filter (is_kept allowed) (notes rows)

abbrev pub line_of : (lines : List ℕ) → (row : Option ℕ) → Option ℕ
line_of lines None = None
line_of lines (Some row) = slice_get lines row

-- what names the row of a note, if it is about one
abbrev pub place_of : (lines : List ℕ) → (row : Option ℕ) → List ℕ
place_of lines None = codes " "
place_of lines (Some row) = codes " " ++ (row_place row (slice_get lines row) ++ codes ": ")

-- about rows that begin on these lines
abbrev pub note_line : Form → (lines : List ℕ) → Note → List ℕ
note_line form.Text lines note = note_text (place_of lines note.row) note
note_line form.Json lines note = note_json (line_of lines note.row) None note
