-- The record that a row is written as.
use Rattle.std.specs.Prelude.{◌≡◌, ◌++◌, ℕ, Bool, true, false, List, [], codes, Option, Some, None, ⊤, map}
use Rattle.hex.specs.Hex.{encode_lower}
use Rattle.opc_names.specs.Names.{console_rule, group_rule, name_fault, pattern_rule, user_rule}
use Rattle.opc_names.specs.Spellings.{auth_text, class_text, level_text}
use Rattle.opc_terms.specs.Entries.{entry_fault}
use Rattle.opc_terms.specs.Modes.{mode_text}
use Rattle.opc_policy_members.specs.declared.row.Row.{Row}
use Rattle.opc_policy_members.specs.declared.row.Row.TheVariants as row
use Rattle.opc_policy_members.specs.declared.user.User.{User}
use Rattle.opc_import.specs.Columns.{Record, columns}
use Rattle.opc_import.specs.Fields.{digest_of}
use Rattle.opc_import.specs.Kinds.{kind_text}
use Rattle.opc_import.specs.declared.column.Column.{Column}
use Rattle.opc_import.specs.declared.column.Column.TheVariants as column
use Rattle.opc_import.specs.declared.kind.Kind.{Kind}
use Rattle.opc_import.specs.declared.kind.Kind.TheVariants as kind

abbrev pub activity_text : Bool → List ℕ
activity_text true = codes "ACTIVE"
activity_text false = codes "INACTIVE"

abbrev pub warning_text : Bool → List ℕ
warning_text true = codes "W"
warning_text false = []

abbrev pub restriction_text : Bool → List ℕ
restriction_text true = codes "Y"
restriction_text false = []

-- the only console that an entry is for, or nothing
abbrev pub when_text : Option (List ℕ) → List ℕ
when_text None = []
when_text (Some console) = console

-- a letter, if its flag is set
abbrev pub letter : List ℕ → Bool → List ℕ
letter text true = text
letter text false = []

-- `S` for SPECIAL, `A` for AUDITOR, `R` for revoked, in this order
abbrev pub flags_text : User → List ℕ
flags_text user = letter (codes "S") user.special ++ letter (codes "A") user.auditor ++ letter (codes "R") user.revoked

-- 64 digits in lower case, or nothing
abbrev pub digest_text : Option (List ℕ) → List ℕ
digest_text None = []
digest_text (Some bytes) = encode_lower bytes

abbrev pub kind_of : Row → Kind
kind_of (row.Class class active) = kind.Class
kind_of (row.Group name) = kind.Group
kind_of (row.User user) = kind.User
kind_of (row.Connect user group) = kind.Connect
kind_of (row.Console name auth mode) = kind.Console
kind_of (row.Profile class pattern uacc owner warning) = kind.Profile
kind_of (row.Permit class pattern id level when) = kind.Permit

-- what a row has in a column that its kind uses; nothing in the others
abbrev pub text_in : Column → Row → List ℕ
text_in column.Kind row = kind_text (kind_of row)
text_in column.Class (row.Class class active) = class_text class
text_in column.Class (row.Profile class pattern uacc owner warning) = class_text class
text_in column.Class (row.Permit class pattern id level when) = class_text class
text_in column.Name (row.Group name) = name
text_in column.Name (row.User user) = user.id
text_in column.Name (row.Connect user group) = user
text_in column.Name (row.Console name auth mode) = name
text_in column.Name (row.Profile class pattern uacc owner warning) = pattern
text_in column.Name (row.Permit class pattern id level when) = pattern
text_in column.Id (row.Connect user group) = group
text_in column.Id (row.Permit class pattern id level when) = id
text_in column.Value (row.Class class active) = activity_text active
text_in column.Value (row.Console name auth mode) = auth_text auth
text_in column.Value (row.Profile class pattern uacc owner warning) = level_text uacc
text_in column.Value (row.Permit class pattern id level when) = level_text level
text_in column.Owner (row.Profile class pattern uacc owner warning) = owner
text_in column.Flags (row.User user) = flags_text user
text_in column.Flags (row.Console name auth mode) = mode_text mode
text_in column.Flags (row.Profile class pattern uacc owner warning) = warning_text warning
text_in column.Digest (row.User user) = digest_text user.digest
text_in column.When (row.Permit class pattern id level when) = when_text when
text_in column.Restricted (row.User user) = restriction_text user.restricted
text_in column row = []

-- the record of a row
abbrev pub record_of : Row → Record
record_of row = map (λ column. text_in column row) columns

-- the text of a console that is given is a console's name
abbrev pub IsValidWhen : Option (List ℕ) → Type 0
IsValidWhen None = ⊤
IsValidWhen (Some console) = name_fault console_rule console ≡ None

-- the names and the digest that a row has in a column are valid
abbrev pub IsValidIn : Column → Row → Type 0
IsValidIn column.Name (row.Group name) = name_fault group_rule name ≡ None
IsValidIn column.Name (row.User user) = name_fault user_rule user.id ≡ None
IsValidIn column.Name (row.Connect user group) = name_fault user_rule user ≡ None
IsValidIn column.Name (row.Console name auth mode) = name_fault console_rule name ≡ None
IsValidIn column.Name (row.Profile class pattern uacc owner warning) = name_fault pattern_rule pattern ≡ None
IsValidIn column.Name (row.Permit class pattern id level when) = name_fault pattern_rule pattern ≡ None
IsValidIn column.Id (row.Connect user group) = name_fault group_rule group ≡ None
IsValidIn column.Id (row.Permit class pattern id level when) = entry_fault id ≡ None
IsValidIn column.Owner (row.Profile class pattern uacc owner warning) = name_fault user_rule owner ≡ None
IsValidIn column.Digest (row.User user) = digest_of (digest_text user.digest) ≡ Some user.digest
IsValidIn column.When (row.Permit class pattern id level when) = IsValidWhen when
IsValidIn column row = ⊤

-- and in each column
abbrev pub IsValid : Row → Type 0
IsValid row = (column : Column) → IsValidIn column row
