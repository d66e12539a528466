-- The kinds of rows, and the row that a record is.
use Rattle.std.specs.Prelude.{ℕ, List, [], ◌∷◌, length, codes, Option, Result, Ok, Err, if◌then◌else◌, nat_lt, ◌==◌}
use Rattle.std.specs.Option.{ok_or}
use Rattle.opc_names.specs.Names.{console_rule, group_rule, pattern_rule, user_rule}
use Rattle.opc_names.specs.Spellings.{auths, classes, levels, lookup}
use Rattle.opc_terms.specs.Modes.{modes}
use Rattle.opc_policy_members.specs.declared.row.Row.{Row}
use Rattle.opc_policy_members.specs.declared.row.Row.TheVariants as row
use Rattle.opc_import.specs.Columns.{Record, field_in, reason, unused}
use Rattle.opc_import.specs.Fields.{
  activities,
  digest_of,
  entry_id_of,
  name_of,
  restrictions,
  user_flags,
  warnings,
  when_of,
}
use Rattle.opc_import.specs.declared.kind.Kind.{Kind}
use Rattle.opc_import.specs.declared.kind.Kind.TheVariants as kind
use Rattle.opc_import.specs.declared.column.Column.{Column}
use Rattle.opc_import.specs.declared.column.Column.TheVariants as column
use Rattle.opc_terms.specs.declared.fault.Why.{Why}
use Rattle.opc_terms.specs.declared.fault.Why.TheVariants as why

-- the second step, if the first gave a value
infixl 10 ◌>>=◌
abbrev pub ◌>>=◌ : {A B : Type 0} → Result A Why → (A → Result B Why) → Result B Why
Ok x >>= f = f x
Err e >>= f = Err e

-- what a reader of texts returns for the field in a column, or that the column is bad
abbrev pub read_in : {A : Type 0} → Column → (List ℕ → Option A) → Record → Result A Why
read_in column reader fields = ok_or (reader (field_in column fields)) (reason column)

-- Each kind reads its columns from left to right. A column that it does not use is empty.
abbrev pub class_row : Record → Result Row Why
class_row fields = do
  class ← read_in column.Class (lookup classes) fields
  _ ← unused column.Name fields
  _ ← unused column.Id fields
  active ← read_in column.Value (lookup activities) fields
  _ ← unused column.Owner fields
  _ ← unused column.Flags fields
  _ ← unused column.Digest fields
  _ ← unused column.When fields
  _ ← unused column.Restricted fields
  Ok (row.Class class active)

abbrev pub group_row : Record → Result Row Why
group_row fields = do
  _ ← unused column.Class fields
  name ← read_in column.Name (name_of group_rule) fields
  _ ← unused column.Id fields
  _ ← unused column.Value fields
  _ ← unused column.Owner fields
  _ ← unused column.Flags fields
  _ ← unused column.Digest fields
  _ ← unused column.When fields
  _ ← unused column.Restricted fields
  Ok (row.Group name)

abbrev pub user_row : Record → Result Row Why
user_row fields = do
  _ ← unused column.Class fields
  name ← read_in column.Name (name_of user_rule) fields
  _ ← unused column.Id fields
  _ ← unused column.Value fields
  _ ← unused column.Owner fields
  flags ← read_in column.Flags (lookup user_flags) fields
  digest ← read_in column.Digest digest_of fields
  _ ← unused column.When fields
  restricted ← read_in column.Restricted (lookup restrictions) fields
  Ok (row.User (record {
    id = name;
    special = flags.special;
    auditor = flags.auditor;
    revoked = flags.revoked;
    digest = digest;
    restricted = restricted;
  }))

abbrev pub connect_row : Record → Result Row Why
connect_row fields = do
  _ ← unused column.Class fields
  user ← read_in column.Name (name_of user_rule) fields
  group ← read_in column.Id (name_of group_rule) fields
  _ ← unused column.Value fields
  _ ← unused column.Owner fields
  _ ← unused column.Flags fields
  _ ← unused column.Digest fields
  _ ← unused column.When fields
  _ ← unused column.Restricted fields
  Ok (row.Connect user group)

abbrev pub console_row : Record → Result Row Why
console_row fields = do
  _ ← unused column.Class fields
  name ← read_in column.Name (name_of console_rule) fields
  _ ← unused column.Id fields
  auth ← read_in column.Value (lookup auths) fields
  _ ← unused column.Owner fields
  mode ← read_in column.Flags (lookup modes) fields
  _ ← unused column.Digest fields
  _ ← unused column.When fields
  _ ← unused column.Restricted fields
  Ok (row.Console name auth mode)

abbrev pub profile_row : Record → Result Row Why
profile_row fields = do
  class ← read_in column.Class (lookup classes) fields
  pattern ← read_in column.Name (name_of pattern_rule) fields
  _ ← unused column.Id fields
  uacc ← read_in column.Value (lookup levels) fields
  owner ← read_in column.Owner (name_of user_rule) fields
  warning ← read_in column.Flags (lookup warnings) fields
  _ ← unused column.Digest fields
  _ ← unused column.When fields
  _ ← unused column.Restricted fields
  Ok (row.Profile class pattern uacc owner warning)

abbrev pub permit_row : Record → Result Row Why
permit_row fields = do
  class ← read_in column.Class (lookup classes) fields
  pattern ← read_in column.Name (name_of pattern_rule) fields
  id ← read_in column.Id entry_id_of fields
  level ← read_in column.Value (lookup levels) fields
  _ ← unused column.Owner fields
  _ ← unused column.Flags fields
  _ ← unused column.Digest fields
  when ← read_in column.When when_of fields
  _ ← unused column.Restricted fields
  Ok (row.Permit class pattern id level when)

abbrev pub kind_text : Kind → List ℕ
kind_text kind.Class = codes "class"
kind_text kind.Group = codes "group"
kind_text kind.User = codes "user"
kind_text kind.Connect = codes "connect"
kind_text kind.Console = codes "console"
kind_text kind.Profile = codes "profile"
kind_text kind.Permit = codes "permit"

abbrev pub kinds : List (List ℕ × Kind)
kinds =
    (codes "class", kind.Class) ∷ (codes "group", kind.Group) ∷ (codes "user", kind.User)
    ∷ (codes "connect", kind.Connect)
    ∷ (codes "console", kind.Console) ∷ (codes "profile", kind.Profile) ∷ (codes "permit", kind.Permit) ∷ []

abbrev pub row_of_kind : Kind → Record → Result Row Why
row_of_kind kind.Class fields = class_row fields
row_of_kind kind.Group fields = group_row fields
row_of_kind kind.User fields = user_row fields
row_of_kind kind.Connect fields = connect_row fields
row_of_kind kind.Console fields = console_row fields
row_of_kind kind.Profile fields = profile_row fields
row_of_kind kind.Permit fields = permit_row fields

-- the row of the kind that the record names
abbrev pub row_by_kind : Record → Result Row Why
row_by_kind fields = do
  kind ← read_in column.Kind (lookup kinds) fields
  row_of_kind kind fields

-- how many rows a file may have
abbrev pub most_rows : ℕ
most_rows = 10000

-- the row that a record is, as the data record of this number in a file of this many columns, or what is wrong with it
-- first
abbrev pub row_of : ℕ → ℕ → Record → Result Row Why
row_of width number fields =
    if length fields == width then (if nat_lt most_rows number then Err why.Many else row_by_kind fields)
    else Err why.Columns
