-- The lines of the account.
use Rattle.std.specs.Prelude.{
  ◌≡◌,
  ◌-◌,
  ℕ,
  Bool,
  true,
  false,
  List,
  [],
  ◌∷◌,
  ◌++◌,
  codes,
  decimal,
  length,
  replicate,
}
use Rattle.serde_json.specs.Data.{Data, member, no_members, number, object, string, unsigned}
use Rattle.serde_json.specs.Written.{compact_text}
use Rattle.opc_cli_failures.specs.Escaped.{escaped}
use Rattle.opc_state.specs.declared.account.AccountRow.{AccountRow}
use Rattle.opc_times.specs.Times.{IsTime}

-- a text with spaces after it, up to a width
abbrev pub padded : (width : ℕ) → List ℕ → List ℕ
padded width text = text ++ replicate (width - length text) 32

abbrev pub header : List ℕ
header = codes "NUMBER TIME                 CONSOLE  USER     CODE RULE\n"

-- A row under the header: each column but the last is padded and followed by a space. A character of a text that would
-- end the line, or act on a terminal, is escaped.
abbrev pub columns_line : (time : List ℕ) → ℕ × AccountRow → List ℕ
columns_line time (n, row) =
    padded 6 (decimal n) ++ codes " " ++ padded 20 time ++ codes " " ++ padded 8 (escaped row.console) ++ codes " "
    ++ padded 8 (escaped row.user) ++ codes " " ++ padded 4 (escaped row.code) ++ codes " " ++ escaped row.rule
    ++ codes "\n"

-- a row as JSON, its keys in ASCII order
abbrev pub row_value : (time : List ℕ) → ℕ × AccountRow → Data
row_value time (n, row) =
    object (member (codes "code") (string row.code)
    (member (codes "console") (string row.console)
    (member (codes "moment") (number (unsigned row.moment))
    (member (codes "number") (number (unsigned n))
    (member (codes "rule") (string row.rule)
    (member (codes "time") (string time)
    (member (codes "user") (string row.user) no_members)))))))

abbrev pub row_text : (is_json : Bool) → (time : List ℕ) → ℕ × AccountRow → List ℕ
row_text true time row = compact_text (row_value time row) ++ codes "\n"
row_text false time row = columns_line time row

-- The line of a row, with its timestamp as a time in UTC; after the year 9999 as a number.
pub record IsRowLine (is_json : Bool) (row : ℕ × AccountRow) (line : List ℕ) : Type 0 where
  pub time : List ℕ
  pub at : IsTime row.1.moment time
  pub is : line ≡ row_text is_json time row

-- The lines of rows, one of each, in their order.
abbrev pub AreLines : (is_json : Bool) → List (ℕ × AccountRow) → (text : List ℕ) → Type 0
AreLines is_json [] text = text ≡ []
AreLines is_json (row ∷ rows) text =
    (line : List ℕ) × (rest : List ℕ) × IsRowLine is_json row line × AreLines is_json rows rest × (text ≡ line ++ rest)
