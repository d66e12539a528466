-- Who is in which group.
use Rattle.std.specs.Prelude.{◌≡◌, ℕ, Bool, false, ◌&&◌, List, Option, Some, None, filter_map, if◌then◌else◌, map}
use Rattle.std.specs.Str.{bytes_eq}
use Rattle.opc_policy_members.specs.declared.row.Row.{Row}
use Rattle.opc_policy_members.specs.declared.row.Row.TheVariants as rows
use Rattle.opc_policy_members.specs.Members.{name_cmp}
use Rattle.opc_check_notes.specs.declared.connects.Side.{Side}
use Rattle.opc_check_notes.specs.declared.connects.Side.TheVariants as side
use Rattle.opc_check_notes.specs.declared.numbered.NumberedRow.{NumberedRow}
use Rattle.opc_check_notes.specs.First.{first_of, paired}
use Rattle.opc_check_notes.specs.SortedPairs.{at_key}

-- the user and the group of a connect, the one that it is looked up by first
abbrev pub pair : Side → Row → Option (List ℕ × List ℕ)
pair side.User (rows.Connect user group) = Some (user, group)
pair side.Group (rows.Connect user group) = Some (group, user)
pair side row = None

-- those of all connects
abbrev pub pairs : List NumberedRow → Side → List (List ℕ × List ℕ)
pairs list side = filter_map (λ (at : NumberedRow). pair side at.row) list

-- the groups of a user, or the users of a group
abbrev pub partners : List NumberedRow → Side → List ℕ → List (List ℕ)
partners list side id = filter_map (λ (at : NumberedRow). paired id (pair side at.row)) list

-- whether a row connects a user with a group
abbrev pub connects : List ℕ → List ℕ → Row → Bool
connects user group (rows.Connect of_user to_group) = bytes_eq of_user user && bytes_eq to_group group
connects user group row = false

-- the number of the first of these rows that does
abbrev pub number_at : List NumberedRow → List ℕ → List ℕ → Option ℕ
number_at list user group =
    first_of (λ (at : NumberedRow). if connects user group at.row then Some at.number else None) list

-- what is looked up by a key are those
abbrev pub HasPartners : List NumberedRow → Side → List (List ℕ × List ℕ) → Type 0
HasPartners list side kept = (id : List ℕ)
    → map (λ (p : List ℕ × List ℕ). p.1) (at_key name_cmp id kept) ≡ partners list side id
