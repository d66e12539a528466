-- The names that rows give.
use Rattle.std.specs.Prelude.{◌≡◌, ℕ, Bool, false, not, ◌&&◌, List, Option, Some, None, count_by, if◌then◌else◌}
use Rattle.std.specs.List.{list_any}
use Rattle.std.specs.Option.{is_some, option_map_or}
use Rattle.std.specs.Str.{bytes_eq}
use Rattle.opc_names.specs.declared.auth.Auth.TheVariants as auth
use Rattle.opc_terms.specs.declared.mode.Mode.TheVariants as mode
use Rattle.opc_policy_members.specs.declared.row.Row.{Row}
use Rattle.opc_policy_members.specs.declared.row.Row.TheVariants as rows
use Rattle.opc_import.specs.declared.kind.Kind.{Kind}
use Rattle.opc_import.specs.declared.kind.Kind.TheVariants as kind
use Rattle.opc_check_notes.specs.declared.names.Given.{Given}
use Rattle.opc_check_notes.specs.declared.names.Given.TheVariants as given
use Rattle.opc_check_notes.specs.declared.numbered.NumberedRow.{NumberedRow}

-- The name that a row gives of each kind. The SPECIAL and AUDITOR of a revoked user do not count.
abbrev pub named : Given → Row → Option (List ℕ)
named given.User (rows.User user) = Some user.id
named given.Revoked (rows.User user) = if user.revoked then Some user.id else None
named given.Special (rows.User user) = if user.special && not user.revoked then Some user.id else None
named given.ConnectedUser (rows.Connect user group) = Some user
named given.ConnectedGroup (rows.Connect user group) = Some group
named given.Group (rows.Group name) = Some name
named given.Holder (rows.Permit class pattern id level when) = Some id
named given.Auditor (rows.User user) = if user.auditor && not user.revoked then Some user.id else None
named given.MasterConsole (rows.Console name auth.Master mode) = Some name
named given.AutoConsole (rows.Console name auth mode.Auto) = Some name
named given row = None

abbrev pub is_name : Option (List ℕ) → List ℕ → Bool
is_name given name = option_map_or (λ (n : List ℕ). bytes_eq n name) given false

-- whether one of these rows gives a name
abbrev pub is_named : List NumberedRow → Given → List ℕ → Bool
is_named list given name = list_any (λ (at : NumberedRow). is_name (named given at.row) name) list

-- the kind of the rows that give a name
abbrev pub giving : Given → Kind
giving given.User = kind.User
giving given.Revoked = kind.User
giving given.Special = kind.User
giving given.Auditor = kind.User
giving given.ConnectedUser = kind.Connect
giving given.ConnectedGroup = kind.Connect
giving given.Group = kind.Group
giving given.Holder = kind.Permit
giving given.MasterConsole = kind.Console
giving given.AutoConsole = kind.Console

-- names are those that rows give
abbrev pub HasNames : List NumberedRow → Given → List (List ℕ) → Type 0
HasNames list given names = (name : List ℕ)
    → list_any (λ (n : List ℕ). bytes_eq n name) names ≡ is_named list given name

-- how many of these rows give one
abbrev pub count : List NumberedRow → Given → ℕ
count list given = count_by (λ (at : NumberedRow). is_some (named given at.row)) list
