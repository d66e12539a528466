-- What is found by the groups of a user, with the numbers of the connects.
use Rattle.std.specs.Prelude.{ℕ, nat_lt, List, Option, Some, None, if◌then◌else◌, option_map}
use Rattle.std.specs.List.{fold}
use Rattle.std.specs.Option.{option_and_then}
use Rattle.opc_policy_members.specs.declared.row.Row.{Row}
use Rattle.opc_policy_members.specs.declared.row.Row.TheVariants as rows
use Rattle.opc_check_notes.specs.declared.entries.EntryPlace.{EntryPlace}
use Rattle.opc_check_notes.specs.declared.numbered.NumberedRow.{NumberedRow}
use Rattle.opc_check_notes.specs.Connects.{number_at}
use Rattle.opc_check_notes.specs.declared.groups.Ranked.{Ranked}
use Rattle.opc_check_notes.specs.declared.note.Finding.{Finding}
use Rattle.opc_check_notes.specs.Notes.{group_above}

-- where an entry is
abbrev pub place_of : Row → Option EntryPlace
place_of (rows.Permit class pattern id level when) = Some (record { class = class; pattern = pattern; when = when })
place_of row = None

-- what is found by a group, if a row connects the user with it
abbrev pub ranked : List NumberedRow → Row → List ℕ → List ℕ → Option Ranked
ranked list row user group = option_and_then
    (λ (f : Finding). option_map (λ (n : ℕ). record { number = n; finding = f }) (number_at list user group))
    (group_above list row group)

-- the one of two with the lower number
abbrev pub earlier : Option Ranked → Option Ranked → Option Ranked
earlier None other = other
earlier (Some one) None = Some one
earlier (Some one) (Some two) = if nat_lt two.number one.number then Some two else Some one

-- the one of all groups with the lowest number
abbrev pub first_ranked : List NumberedRow → Row → List ℕ → List (List ℕ) → Option Ranked
first_ranked list row user groups =
    fold (λ (first : Option Ranked) (group : List ℕ). earlier first (ranked list row user group)) None groups
