-- The columns of a policy file, and the fields of a record that stand in them.
use Rattle.std.specs.Prelude.{
  ℕ,
  Bool,
  List,
  [],
  ◌∷◌,
  length,
  codes,
  Result,
  Ok,
  Err,
  if◌then◌else◌,
  ◌==◌,
  ◌&&◌,
  ◌++◌,
  Option,
  Some,
  None,
  map,
  unwrap_or,
}
use Rattle.std.specs.List.{list_all}
use Rattle.std.specs.Str.{bytes_eq}
use Rattle.csv.specs.Records.{field_at}
use Rattle.opc_import.specs.declared.column.Column.{Column}
use Rattle.opc_import.specs.declared.column.Column.TheVariants as column
use Rattle.opc_terms.specs.declared.fault.Why.{Why}
use Rattle.opc_terms.specs.declared.fault.Why.TheVariants as why

-- the fields of a record
abbrev pub Record : Type 0
Record = List (List ℕ)

-- the columns that every file has, from left to right
abbrev pub first_columns : List Column
first_columns = column.Kind ∷ column.Class ∷ column.Name ∷ column.Id ∷ column.Value ∷ column.Owner ∷ column.Flags
    ∷ column.Digest ∷ []

-- all columns
abbrev pub columns : List Column
columns = first_columns ++ column.When ∷ column.Restricted ∷ []

abbrev pub column_name : Column → List ℕ
column_name column.Kind = codes "kind"
column_name column.Class = codes "class"
column_name column.Name = codes "name"
column_name column.Id = codes "id"
column_name column.Value = codes "value"
column_name column.Owner = codes "owner"
column_name column.Flags = codes "flags"
column_name column.Digest = codes "digest"
column_name column.When = codes "when"
column_name column.Restricted = codes "restricted"

-- its place among the columns
abbrev pub place : Column → ℕ
place column.Kind = 0
place column.Class = 1
place column.Name = 2
place column.Id = 3
place column.Value = 4
place column.Owner = 5
place column.Flags = 6
place column.Digest = 7
place column.When = 8
place column.Restricted = 9

-- what is wrong with a row whose field in the column is bad
abbrev pub reason : Column → Why
reason column.Kind = why.Kind
reason column.Class = why.Class
reason column.Name = why.Name
reason column.Id = why.Id
reason column.Value = why.Value
reason column.Owner = why.Owner
reason column.Flags = why.Flags
reason column.Digest = why.Digest
reason column.When = why.When
reason column.Restricted = why.Restricted

-- the fields of the header that is written
abbrev pub header : Record
header = map column_name columns

-- the field of a record in a column, empty if the record is too short
abbrev pub field_in : Column → Record → List ℕ
field_in column fields = unwrap_or (field_at fields (place column)) []

-- the name of each of some columns is its field
abbrev pub has_names : List Column → Record → Bool
has_names columns fields = list_all (λ column. bytes_eq (field_in column fields) (column_name column)) columns

abbrev pub is_header : List Column → Record → Bool
is_header columns fields = (length fields == length columns) && has_names columns fields

-- How many fields the rows have below a header: as many as there are columns, or, in a file without the last two, those
-- that every file has; none if it is not a header.
abbrev pub width_of : Record → Option ℕ
width_of fields =
    if is_header columns fields then Some (length columns)
    else if is_header first_columns fields then Some (length first_columns)
    else None

-- the record's field in the column is empty
abbrev pub unused : Column → Record → Result Unit Why
unused column fields = if length (field_in column fields) == 0 then Ok tt else Err (reason column)
