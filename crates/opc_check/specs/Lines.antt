-- The lines about problems of rows, one for each.
use Rattle.std.specs.Prelude.{◌++◌, ℕ, List, [], ◌∷◌, Option, Some, None, codes, flat_map, slice_get}
use Rattle.serde_json.specs.Data.{Data, member, no_members, null, number, object, string, unsigned}
use Rattle.serde_json.specs.Written.{compact_text}
use Rattle.opc_terms.specs.Faults.{fault_code}
use Rattle.opc_terms.specs.declared.fault.Fault.{Fault}
use Rattle.opc_terms.specs.declared.fault.Fault.TheVariants.{RowFault}
use Rattle.opc_terms.specs.declared.fault.Why.{Why}
use Rattle.opc_import.specs.Columns.{column_name}
use Rattle.opc_import.specs.declared.column.Column.{Column}
use Rattle.opc_check.specs.Problems.{Problem}
use Rattle.opc_check.specs.RowLines.{row_place}
use Rattle.opc_check.specs.Words.{column_of}
use Rattle.opc_check.specs.declared.form.Form.{Form}
use Rattle.opc_check.specs.declared.form.Form.TheVariants as form

-- a line for people about a row, which begins on this line of its file
abbrev pub row_line : (row : ℕ) → (line : Option ℕ) → List ℕ → List ℕ
row_line row line text = row_place row line ++ (codes ": " ++ (text ++ 10 ∷ []))

-- the column whose field is bad, or null if the whole row is
abbrev pub field_value : Option Column → Data
field_value None = null
field_value (Some column) = string (column_name column)

-- its line, or null
abbrev pub line_value : Option ℕ → Data
line_value None = null
line_value (Some line) = number (unsigned line)

-- an object for programs about a bad row
abbrev pub bad_value : (row : ℕ) → (line : Option ℕ) → Data → List ℕ → Data
bad_value row line field text =
    object (member (codes "code") (string (codes "E60"))
    (member (codes "field") field
    (member (codes "line") (line_value line)
    (member (codes "row") (number (unsigned row))
    (member (codes "text") (string text) no_members)))))

-- and about one that is refused
abbrev pub refused_value : List ℕ → (row : ℕ) → (line : Option ℕ) → List ℕ → Data
refused_value code row line text =
    object (member (codes "code") (string code)
    (member (codes "line") (line_value line)
    (member (codes "row") (number (unsigned row))
    (member (codes "text") (string text) no_members))))

-- why a row cannot be read, unless it is refused
abbrev pub why_of : Fault → Option Why
why_of (RowFault row why) = Some why
why_of fault = None

-- The line about a row with this code. People read the code of a refusal alone: all bad rows have the same.
abbrev pub line_by : Form → (row : ℕ) → (line : Option ℕ) → List ℕ → List ℕ → Option Why → List ℕ
line_by form.Text row line code text (Some why) = row_line row line text
line_by form.Text row line code text None = row_line row line (code ++ (codes " " ++ text))
line_by form.Json row line code text (Some why) =
    compact_text (bad_value row line (field_value (column_of why)) text) ++ 10 ∷ []
line_by form.Json row line code text None = compact_text (refused_value code row line text) ++ 10 ∷ []

abbrev pub problem_line : Form → (lines : List ℕ) → Problem → List ℕ
problem_line form lines p =
    line_by form p.number (slice_get lines p.number) (fault_code p.fault) p.text (why_of p.fault)

-- about rows that begin on these lines of their file
abbrev pub problem_lines : Form → (lines : List ℕ) → List Problem → List ℕ
problem_lines form lines problems = flat_map (problem_line form lines) problems
