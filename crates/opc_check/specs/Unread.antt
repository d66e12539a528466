-- Why the rows of a policy file are not read at all: its bytes are no text, or its text does not begin with the header.
use Rattle.std.specs.Prelude.{
  ◌==◌,
  ◌&&◌,
  ◌||◌,
  ◌++◌,
  ℕ,
  Bool,
  false,
  List,
  [],
  ◌∷◌,
  Option,
  Some,
  None,
  codes,
  if◌then◌else◌,
  length,
  not,
}
use Rattle.std.specs.List.{find, list_any}
use Rattle.std.specs.Str.Lines.{lines}
use Rattle.csv.specs.Reading.{strip_bom}
use Rattle.opc_check.specs.Words.{quoted_start}

-- the most bytes of a policy file
abbrev pub policy_limit : ℕ
policy_limit = 16777216

-- what is wrong with more bytes than that
abbrev pub too_long : List ℕ
too_long = codes "more than 16,777,216 bytes"

-- bytes of UTF-16 begin with a mark of their order, FE FF or FF FE
abbrev pub is_utf16 : List ℕ → Bool
is_utf16 (a ∷ b ∷ rest) = ((a == 254) && (b == 255)) || ((a == 255) && (b == 254))
is_utf16 bytes = false

-- what is wrong with bytes that are not UTF-8
abbrev pub not_utf8 : List ℕ → List ℕ
not_utf8 bytes = if is_utf16 bytes then codes "UTF-16 and not UTF-8; save it as \"CSV UTF-8\"" else codes "not UTF-8"

-- the first line that is not empty
abbrev pub first_line : List ℕ → Option (List ℕ)
first_line text = find (λ line. not (length line == 0)) (lines text)

-- what some programs write between fields in place of a comma: a semicolon, a tab, or a bar
abbrev pub is_separator : ℕ → Bool
is_separator c = (c == 59) || ((c == 9) || (c == 124))

-- what the fields of a row seem to be separated by, if not by commas
abbrev pub separator_in : List ℕ → Option ℕ
separator_in row = if list_any (λ c. c == 44) row then None else find is_separator row

-- what helps with a row in the place of the header
abbrev pub separated_text : Option ℕ → List ℕ
separated_text None = codes "; expected kind,class,name,id,value,owner,flags,digest"
separated_text (Some c) =
    if c == 59 then codes "; fields are separated by ';', expected ','" else
    (if c == 9 then codes "; fields are separated by '\\t', expected ','" else
    codes "; fields are separated by '|', expected ','")

abbrev pub wrong_header : List ℕ → List ℕ
wrong_header row =
    codes "the first row is not the header: " ++ (quoted_start row ++ separated_text (separator_in row))

abbrev pub header_by : Option (List ℕ) → List ℕ
header_by None = codes "no rows; the first has to be the header"
header_by (Some line) = wrong_header (strip_bom line)

-- why a text that does not begin with the header has no rows
abbrev pub header_text : List ℕ → List ℕ
header_text text = header_by (first_line text)
