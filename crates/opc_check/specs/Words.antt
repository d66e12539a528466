-- What is wrong with a row, in words.
use Rattle.std.specs.Prelude.{
  ◌-◌,
  ◌==◌,
  ◌++◌,
  ℕ,
  List,
  [],
  ◌∷◌,
  Option,
  Some,
  None,
  chars,
  codes,
  decimal,
  encode_utf8_all,
  if◌then◌else◌,
  length,
  nat_lt,
}
use Rattle.std.specs.Char.Escape.{escape_unicode}
use Rattle.opc_names.specs.Spellings.{lookup}
use Rattle.opc_terms.specs.declared.fault.Why.{Why}
use Rattle.opc_terms.specs.declared.fault.Why.TheVariants as why
use Rattle.opc_import.specs.Columns.{Record, column_name, field_in}
use Rattle.opc_import.specs.Kinds.{kind_text, kinds}
use Rattle.opc_import.specs.declared.column.Column.{Column}
use Rattle.opc_import.specs.declared.column.Column.TheVariants as column
use Rattle.opc_import.specs.declared.kind.Kind.{Kind}
use Rattle.opc_import.specs.declared.kind.Kind.TheVariants as kind
use Rattle.opc_check.specs.Escape.{is_unprintable}

-- the column whose field is bad, if only one is
abbrev pub column_of : Why → Option Column
column_of why.Header = None
column_of why.Columns = None
column_of why.Many = None
column_of why.Kind = Some column.Kind
column_of why.Class = Some column.Class
column_of why.Name = Some column.Name
column_of why.Id = Some column.Id
column_of why.Value = Some column.Value
column_of why.Owner = Some column.Owner
column_of why.Flags = Some column.Flags
column_of why.Digest = Some column.Digest
column_of why.When = Some column.When
column_of why.Restricted = Some column.Restricted

-- what is wrong with a field that does not fit the kind; none if rows of the kind have no field in the column
abbrev pub misfit : Column → Kind → Option (List ℕ)
misfit column.Class kind.Class = Some (codes "is neither CONSOLE nor OPERCMDS")
misfit column.Class kind.Profile = Some (codes "is neither CONSOLE nor OPERCMDS")
misfit column.Class kind.Permit = Some (codes "is neither CONSOLE nor OPERCMDS")
misfit column.Name kind.User = Some (codes "is not a valid user name")
misfit column.Name kind.Connect = Some (codes "is not a valid user name")
misfit column.Name kind.Group = Some (codes "is not a valid group name")
misfit column.Name kind.Console = Some (codes "is not a valid console name")
misfit column.Name kind.Profile = Some (codes "is not a valid pattern")
misfit column.Name kind.Permit = Some (codes "is not a valid pattern")
misfit column.Id kind.Connect = Some (codes "is not a valid group name")
misfit column.Id kind.Permit = Some (codes "is neither * nor the name of a user or group")
misfit column.Value kind.Class = Some (codes "is neither ACTIVE nor INACTIVE")
misfit column.Value kind.Console = Some (codes "is not a valid authority")
misfit column.Value kind.Profile = Some (codes "is not a valid level")
misfit column.Value kind.Permit = Some (codes "is not a valid level")
misfit column.Owner kind.Profile = Some (codes "is not a valid user name")
misfit column.Flags kind.User = Some (codes "must be any of S, A and R, in this order")
misfit column.Flags kind.Console = Some (codes "are neither OPTIONAL, REQUIRED nor AUTO")
misfit column.Flags kind.Profile = Some (codes "are neither empty nor W")
misfit column.Digest kind.User = Some (codes "is not 64 of the characters 0 to 9 and a to f")
misfit column.When kind.Permit = Some (codes "is not a valid console name")
misfit column.Restricted kind.User = Some (codes "is neither empty nor Y")
misfit column kind = None

-- The field of a column is shown in double quotes. Within them these two stand behind a backslash (92), and characters
-- that a line does not show as escapes.
abbrev pub quoted_character : ℕ → List ℕ
quoted_character c =
    if c == 34 then 92 ∷ 34 ∷ []
    else if c == 92 then 92 ∷ 92 ∷ []
    else if is_unprintable c then escape_unicode c
    else c ∷ []

-- the most characters of a field that are shown: as many as the longest name has
abbrev pub most_shown : ℕ
most_shown = 39

-- the characters for which there is room, a quote, and `..` if there are more
abbrev pub start_within : ℕ → List ℕ → List ℕ
start_within room [] = codes "\""
start_within room (c ∷ more) =
    if room == 0 then codes "\".." else encode_utf8_all (quoted_character c) ++ start_within (room - 1) more

unfoldable pub quoted_start : List ℕ → List ℕ
quoted_start text = 34 ∷ start_within most_shown (chars text)

-- an invalid digest may be a password, so only its length is shown
abbrev pub length_text : ℕ → List ℕ
length_text count =
    if count == 1 then codes "it has 1 character" else codes "it has " ++ (decimal count ++ codes " characters")

abbrev pub shown_field : Column → List ℕ → List ℕ
shown_field column.Digest field = length_text (length (chars field))
shown_field column field = quoted_start field

-- what is wrong with the field of a column
abbrev pub misfit_text : Column → Kind → Option (List ℕ) → List ℕ
misfit_text column kind (Some words) = codes "the " ++ (column_name column ++ (codes " " ++ words))
misfit_text column kind None = codes "a " ++ (kind_text kind ++ (codes " row has no " ++ column_name column))

abbrev pub kind_misfit : Column → Option Kind → List ℕ
kind_misfit column None = codes "there is no such " ++ column_name column
kind_misfit column (Some kind) = misfit_text column kind (misfit column kind)

abbrev pub kind_of : Record → Option Kind
kind_of fields = lookup kinds (field_in column.Kind fields)

abbrev pub field_text : Column → Record → List ℕ
field_text column fields =
    kind_misfit column (kind_of fields) ++ (codes ": " ++ shown_field column (field_in column fields))

-- a record does not have as many fields as the header
abbrev pub count_text : ℕ → List ℕ
count_text count =
    if count == 1 then codes "it has 1 column"
    else if nat_lt 10 count then codes "it has more than 10 columns"
    else codes "it has " ++ (decimal count ++ codes " columns")

-- A record with too many columns may have an authority that is not quoted.
abbrev pub quoting_text : (width count : ℕ) → List ℕ
quoting_text width count = if nat_lt width count then codes "; quote a field that has a comma: \"SYS,IO\"" else []

abbrev pub columns_text : (width count : ℕ) → List ℕ
columns_text width count =
    count_text count ++ (codes " and not " ++ (decimal width ++ quoting_text width count))

abbrev pub whole_text : ℕ → Record → Why → List ℕ
whole_text width fields why.Many = codes "there are more than 10,000 rows"
whole_text width fields why.Header = codes "the first row is not the header"
whole_text width fields why = columns_text width (length fields)

abbrev pub text_by : ℕ → Record → Why → Option Column → List ℕ
text_by width fields why (Some column) = field_text column fields
text_by width fields why None = whole_text width fields why

-- what is wrong with a record in a file whose rows have this many fields
abbrev pub bad_text : ℕ → Record → Why → List ℕ
bad_text width fields why = text_by width fields why (column_of why)
