-- The rows of a policy file, each judged by itself: which are bad, and which are not.
use Rattle.std.specs.Prelude.{◌+◌, ℕ, List, [], ◌∷◌, Option, Some, None, Result, Ok, Err, if◌then◌else◌, nat_le}
use Rattle.csv.specs.Reading.{default_config, records, strip_bom}
use Rattle.opc_terms.specs.declared.fault.Why.{Why}
use Rattle.opc_policy_members.specs.declared.row.Row.{Row}
use Rattle.opc_import.specs.Columns.{Record}
use Rattle.opc_import.specs.Each.{below}
use Rattle.opc_import.specs.Kinds.{row_of}
use Rattle.opc_import.specs.declared.each.EachRecord.{EachRecord}

-- a row: its number, its fields, and what they mean, or what is wrong with them first
pub record Judged : Type 0 where
  pub number : ℕ
  pub fields : Record
  pub meaning : Result Row Why

abbrev pub judged_as : ℕ → Record → Result Row Why → Judged
judged_as number fields meaning = record { number = number; fields = fields; meaning = meaning }

abbrev pub judged : ℕ → ℕ → Record → Judged
judged width number fields = judged_as number fields (row_of width number fields)

-- the first row that is one too many is judged, and is bad; those after it are not judged
abbrev pub last_judged : ℕ
last_judged = 10001

unfoldable pub judged_from : ℕ → ℕ → List Record → List Judged
judged_from width number [] = []
judged_from width number (fields ∷ rest) =
    if nat_le number last_judged then judged width number fields ∷ judged_from width (number + 1) rest else []

-- a file with a header: how many fields a row has, and the rows
pub record File : Type 0 where
  pub width : ℕ
  pub rows : List Judged

abbrev pub file_below : Option EachRecord → Option File
file_below None = None
file_below (Some each) = Some (record { width = each.width; rows = judged_from each.width 1 each.records })

-- the file that a text is, if it has a header
abbrev pub file_of : List ℕ → Option File
file_of text = file_below (below (records default_config (strip_bom text)))

abbrev pub with_good : Result Row Why → List Row → List Row
with_good (Ok row) rows = row ∷ rows
with_good (Err why) rows = rows

-- the rows that can be read
abbrev pub good_rows : List Judged → List Row
good_rows [] = []
good_rows (row ∷ more) = with_good row.meaning (good_rows more)

-- a bad row, and why it is bad
pub record Bad : Type 0 where
  pub number : ℕ
  pub fields : Record
  pub why : Why

abbrev pub with_bad : ℕ → Record → Result Row Why → List Bad → List Bad
with_bad number fields (Ok row) bad = bad
with_bad number fields (Err why) bad = record { number = number; fields = fields; why = why } ∷ bad

-- those that cannot
abbrev pub bad_rows : List Judged → List Bad
bad_rows [] = []
bad_rows (row ∷ more) = with_bad row.number row.fields row.meaning (bad_rows more)
