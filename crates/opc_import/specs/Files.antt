-- What a text means as a policy file.
use Rattle.std.specs.Prelude.{◌+◌, ℕ, List, [], ◌∷◌, ◌++◌, Option, Some, None, Result, Ok, Err}
use Rattle.csv.specs.Reading.{default_config, records, strip_bom}
use Rattle.opc_policy_members.specs.declared.row.Row.{Row}
use Rattle.opc_import.specs.Columns.{Record, width_of}
use Rattle.opc_import.specs.Kinds.{row_of}
use Rattle.opc_import.specs.declared.fault.ImportFault.{ImportFault}
use Rattle.opc_import.specs.declared.fault.ImportFault.TheVariants as fault
use Rattle.opc_terms.specs.declared.fault.Why.{Why}
use Rattle.opc_terms.specs.declared.fault.Why.TheVariants as why

-- a row before those that follow it; of two faults the first
abbrev pub with_row : ℕ → Result Row Why → Result (List Row) ImportFault → Result (List Row) ImportFault
with_row number (Err reason) rest = Err (fault.Row number reason)
with_row number (Ok row) (Ok rows) = Ok (row ∷ rows)
with_row number (Ok row) (Err e) = Err e

-- the rows of the data records with this many fields, from this number on, or the first fault
unfoldable pub rows_from : ℕ → ℕ → List Record → Result (List Row) ImportFault
rows_from width number [] = Ok []
rows_from width number (fields ∷ rest) =
    with_row number (row_of width number fields) (rows_from width (number + 1) rest)

-- the rows below a header
abbrev pub rows_below : Option ℕ → List Record → Result (List Row) ImportFault
rows_below None rest = Err (fault.Row 0 why.Header)
rows_below (Some width) rest = rows_from width 1 rest

-- the rows of a file's records, of which the first is the header
abbrev pub rows_of : List Record → Result (List Row) ImportFault
rows_of [] = Err (fault.Row 0 why.Header)
rows_of (fields ∷ rest) = rows_below (width_of fields) rest

-- The rows of a text, or its first fault. Its records are those that `csv` reads with its defaults, after one byte
-- order mark.
abbrev pub policy_of : List ℕ → Result (List Row) ImportFault
policy_of text = rows_of (records default_config (strip_bom text))

-- rows before the meaning of the records that are left
abbrev pub after_rows : List Row → Result (List Row) ImportFault → Result (List Row) ImportFault
after_rows rows (Ok more) = Ok (rows ++ more)
after_rows rows (Err e) = Err e
