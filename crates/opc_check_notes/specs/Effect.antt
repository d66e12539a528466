-- The rows in effect: those that no later row of the same key replaces.
use Rattle.std.specs.Prelude.{ℕ, ◌<◌, Bool, false, ◌+◌, ◌&&◌, List, [], ◌∷◌, if◌then◌else◌}
use Rattle.std.specs.List.{AllByRecursion, list_any}
use Rattle.std.specs.Option.{option_eq}
use Rattle.std.specs.Str.{bytes_eq}
use Rattle.opc_names.specs.Authority.{same_class}
use Rattle.opc_policy_members.specs.declared.row.Row.{Row}
use Rattle.opc_policy_members.specs.declared.row.Row.TheVariants as rows
use Rattle.opc_check_notes.specs.declared.effect.RowKey.{RowKey}
use Rattle.opc_check_notes.specs.declared.effect.RowKey.TheVariants as key
use Rattle.opc_check_notes.specs.declared.numbered.NumberedRow.{NumberedRow}

-- what a row defines
abbrev pub key_of : Row → RowKey
key_of (rows.Class class active) = key.Class class
key_of (rows.Group name) = key.Group name
key_of (rows.User user) = key.User user.id
key_of (rows.Connect user group) = key.Connect user group
key_of (rows.Console name auth mode) = key.Console name
key_of (rows.Profile class pattern uacc owner warning) = key.Profile class pattern
key_of (rows.Permit class pattern id level when) = key.Permit id class pattern when

abbrev pub same_key : RowKey → RowKey → Bool
same_key (key.Class class) (key.Class other) = same_class class other
same_key (key.Group name) (key.Group other) = bytes_eq name other
same_key (key.User id) (key.User other) = bytes_eq id other
same_key (key.Connect user group) (key.Connect other_user other_group) =
    bytes_eq user other_user && bytes_eq group other_group
same_key (key.Console name) (key.Console other) = bytes_eq name other
same_key (key.Profile class pattern) (key.Profile other_class other_pattern) =
    same_class class other_class && bytes_eq pattern other_pattern
same_key (key.Permit id class pattern when) (key.Permit other_id other_class other_pattern other_when) =
    same_class class other_class && (bytes_eq pattern other_pattern
    && (bytes_eq id other_id && option_eq bytes_eq when other_when))
same_key key other = false

-- whether a row is one of these that defines what an earlier row did
abbrev pub is_replaced : Row → List Row → Bool
is_replaced row later = list_any (λ (other : Row). same_key (key_of other) (key_of row)) later

-- The rows in effect with their numbers, the first of which is given.
abbrev pub in_effect : ℕ → List Row → List NumberedRow
in_effect number [] = []
in_effect number (row ∷ more) = if is_replaced row more then in_effect (number + 1) more else
    (record { number = number; row = row } ∷ in_effect (number + 1) more)

-- the numbers of rows rise
abbrev pub AreInOrder : List NumberedRow → Type 0
AreInOrder [] = Unit {0}
AreInOrder (x ∷ xs) = AllByRecursion (λ (y : NumberedRow). x.number < y.number) xs × AreInOrder xs
