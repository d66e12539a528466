-- The last line of a check, and the one line of a file that cannot be judged row by row.
use Rattle.std.specs.Prelude.{◌++◌, ◌==◌, ℕ, List, [], ◌∷◌, None, codes, decimal, if◌then◌else◌}
use Rattle.serde_json.specs.Data.{Data, member, no_members, null, number, object, unsigned}
use Rattle.serde_json.specs.Written.{compact_text}
use Rattle.opc_check.specs.Lines.{bad_value, row_line}
use Rattle.opc_check.specs.declared.form.Form.{Form}
use Rattle.opc_check.specs.declared.form.Form.TheVariants as form

-- a line about row 0, the header
abbrev pub header_line : Form → List ℕ → List ℕ
header_line form.Text text = row_line 0 None text
header_line form.Json text = compact_text (bad_value 0 None null text) ++ 10 ∷ []

abbrev pub verb : ℕ → List ℕ
verb n = if n == 1 then codes " is " else codes " are "

abbrev pub rows_word : ℕ → List ℕ
rows_word n = if n == 1 then codes " row" else codes " rows"

-- how many of the rows are bad, or refused
abbrev pub share_value : List ℕ → ℕ → ℕ → Data
share_value word some all =
    object (member word (number (unsigned some))
    (member (codes "rows") (number (unsigned all)) no_members))

abbrev pub share_line : Form → List ℕ → ℕ → ℕ → List ℕ
share_line form.Text word some all =
    decimal some ++ (codes " of " ++ (decimal all ++ (rows_word all ++ (verb some ++ (word ++ 10 ∷ [])))))
share_line form.Json word some all = compact_text (share_value word some all) ++ 10 ∷ []
