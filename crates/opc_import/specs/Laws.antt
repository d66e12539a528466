-- What is wrong with a record, column by column.
use Rattle.std.specs.Prelude.{
  ◌≡◌,
  ℕ,
  Bool,
  true,
  List,
  [],
  ◌∷◌,
  length,
  Option,
  Some,
  None,
  is_some,
  Result,
  Ok,
  Err,
  if◌then◌else◌,
  nat_lt,
  ◌==◌,
}
use Rattle.std.specs.Option.{option_or}
use Rattle.opc_names.specs.Names.{console_rule, group_rule, pattern_rule, user_rule}
use Rattle.opc_names.specs.Spellings.{auths, classes, levels, lookup}
use Rattle.opc_terms.specs.Modes.{modes}
use Rattle.opc_terms.specs.declared.fault.Why.{Why}
use Rattle.opc_terms.specs.declared.fault.Why.TheVariants as why
use Rattle.opc_import.specs.Columns.{Record, columns, field_in, reason}
use Rattle.opc_import.specs.Fields.{
  activities,
  digest_of,
  entry_id_of,
  name_of,
  restrictions,
  user_flags,
  warnings,
  when_of,
}
use Rattle.opc_import.specs.Kinds.{kinds, most_rows, row_of}
use Rattle.opc_import.specs.declared.column.Column.{Column}
use Rattle.opc_import.specs.declared.column.Column.TheVariants as column
use Rattle.opc_import.specs.declared.kind.Kind.{Kind}
use Rattle.opc_import.specs.declared.kind.Kind.TheVariants as kind

-- Whether a kind takes a text in a column, past the one that names the kind. A column that it does not use is empty.
abbrev pub takes : Kind → Column → List ℕ → Bool
takes kind column.Kind text = true
takes kind.Class column.Class text = is_some (lookup classes text)
takes kind.Class column.Value text = is_some (lookup activities text)
takes kind.Group column.Name text = is_some (name_of group_rule text)
takes kind.User column.Name text = is_some (name_of user_rule text)
takes kind.User column.Flags text = is_some (lookup user_flags text)
takes kind.User column.Digest text = is_some (digest_of text)
takes kind.User column.Restricted text = is_some (lookup restrictions text)
takes kind.Connect column.Name text = is_some (name_of user_rule text)
takes kind.Connect column.Id text = is_some (name_of group_rule text)
takes kind.Console column.Name text = is_some (name_of console_rule text)
takes kind.Console column.Value text = is_some (lookup auths text)
takes kind.Console column.Flags text = is_some (lookup modes text)
takes kind.Profile column.Class text = is_some (lookup classes text)
takes kind.Profile column.Name text = is_some (name_of pattern_rule text)
takes kind.Profile column.Value text = is_some (lookup levels text)
takes kind.Profile column.Owner text = is_some (name_of user_rule text)
takes kind.Profile column.Flags text = is_some (lookup warnings text)
takes kind.Permit column.Class text = is_some (lookup classes text)
takes kind.Permit column.Name text = is_some (name_of pattern_rule text)
takes kind.Permit column.Id text = is_some (entry_id_of text)
takes kind.Permit column.Value text = is_some (lookup levels text)
takes kind.Permit column.When text = is_some (when_of text)
takes kind column text = length text == 0

abbrev pub field_fault : Kind → Record → Column → Option Why
field_fault kind fields column = if takes kind column (field_in column fields) then None else Some (reason column)

-- the fault of the first of these columns that has one
abbrev pub first_fault : Kind → Record → List Column → Option Why
first_fault kind fields [] = None
first_fault kind fields (column ∷ rest) = option_or (field_fault kind fields column) (first_fault kind fields rest)

abbrev pub fault_by_kind : Option Kind → Record → Option Why
fault_by_kind None fields = Some why.Kind
fault_by_kind (Some kind) fields = first_fault kind fields columns

-- what is wrong first with the data record of this number in a file of this many columns, if anything is
abbrev pub record_fault : ℕ → ℕ → Record → Option Why
record_fault width number fields =
    if length fields == width then
    (if nat_lt most_rows number then Some why.Many else fault_by_kind (lookup kinds (field_in column.Kind fields))
    fields)
    else Some why.Columns

-- the fault of an answer
abbrev pub fault_of : {A : Type 0} → Result A Why → Option Why
fault_of (Ok x) = None
fault_of (Err reason) = Some reason

-- A record is a row if and only if nothing is wrong with it, and otherwise has its first fault.
abbrev pub FirstFaultIsNamed : Type 0
FirstFaultIsNamed = (width number : ℕ) (fields : Record)
    → fault_of (row_of width number fields) ≡ record_fault width number fields
