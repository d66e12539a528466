-- The records of a policy file below its header.
use Rattle.std.specs.Prelude.{ℕ, List, [], ◌∷◌, Option, Some, None}
use Rattle.opc_import.specs.Columns.{Record, width_of}
use Rattle.opc_import.specs.declared.each.EachRecord.{EachRecord}

abbrev pub below_header : Option ℕ → List Record → Option EachRecord
below_header None rest = None
below_header (Some width) rest = Some (record { records = rest; width = width })

-- the records after the first, with the number of fields that a row has; none if the first is no header
abbrev pub below : List Record → Option EachRecord
below [] = None
below (fields ∷ rest) = below_header (width_of fields) rest
