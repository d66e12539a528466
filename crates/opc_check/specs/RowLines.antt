-- The lines of a policy file on which its rows begin.
use Rattle.std.specs.Prelude.{
  ◌+◌,
  ◌==◌,
  ◌&&◌,
  ◌++◌,
  ℕ,
  Bool,
  List,
  [],
  ◌∷◌,
  Option,
  Some,
  None,
  codes,
  decimal,
  filter,
  if◌then◌else◌,
  length,
  map,
  not,
  take,
}
use Rattle.csv.specs.Machine.{ends_at_end, ends_with, line_feed, step}
use Rattle.csv.specs.Reading.{default_config, strip_bom}
use Rattle.csv.specs.declared.parser.State.{State}
use Rattle.csv.specs.declared.parser.State.TheVariants as state
use Rattle.csv.specs.declared.parser.Terminator.TheVariants as terminator

-- a record begins with a byte between records that ends no line
abbrev pub begins : State → ℕ → Bool
begins s byte = not (ends_at_end s) && not (ends_with terminator.CRLF byte)

-- what stands before each record of the rest of a text
unfoldable pub texts_before : State → (read rest : List ℕ) → List (List ℕ)
texts_before s read [] = []
texts_before s read (byte ∷ rest) =
    if begins s byte then read ∷ texts_before (step default_config s byte).0 (read ++ byte ∷ []) rest
    else texts_before (step default_config s byte).0 (read ++ byte ∷ []) rest

-- the number of the line after a text: its line feeds, and one
abbrev pub line_after : List ℕ → ℕ
line_after read = length (filter (λ byte. byte == line_feed) read) + 1

-- the lines on which the records of a text without a byte order mark begin
abbrev pub record_lines : List ℕ → List ℕ
record_lines text = map line_after (texts_before state.StartRecord [] text)

-- as many as have a number: the header, which is row 0, and the rows that are judged
abbrev pub most_numbered : ℕ
most_numbered = 10002

-- the lines on which the rows of a policy file begin
abbrev pub row_lines : List ℕ → List ℕ
row_lines text = take most_numbered (record_lines (strip_bom text))

-- a row, with the line on which it begins, if that is known
abbrev pub row_place : ℕ → Option ℕ → List ℕ
row_place row None = codes "row " ++ decimal row
row_place row (Some line) = codes "row " ++ (decimal row ++ (codes ", line " ++ decimal line))
