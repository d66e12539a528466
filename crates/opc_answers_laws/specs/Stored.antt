-- Which rows of a policy file are stored, once it is loaded.
use Rattle.std.specs.Prelude.{◌≡◌, ℕ, List, Option, Some, None, if◌then◌else◌, map, option_map}
use Rattle.std.specs.List.{Contains}
use Rattle.std.specs.Option.{option_and_then}
use Rattle.opc_names.specs.declared.class.Class.{Class}
use Rattle.opc_names.specs.declared.level.Level.{Level}
use Rattle.opc_policy_members.specs.declared.policy.Policy.{Policy}
use Rattle.opc_policy_members.specs.declared.profile.Profile.{Profile}
use Rattle.opc_policy_members.specs.declared.row.Row.{Row}
use Rattle.opc_policy_members.specs.declared.row.Row.TheVariants as rows
use Rattle.opc_policy_members.specs.declared.user.User.{User}
use Rattle.opc_policy_members.specs.Access.{entry_level}
use Rattle.opc_policy_members.specs.Members.{user_of}
use Rattle.opc_policy_members.specs.Profiles.{profile_of}
use Rattle.opc_policy_members.specs.Taken.{has_group, is_active}
use Rattle.opc_board.specs.declared.board.BoardRows.{BoardRows}
use Rattle.opc_board.specs.declared.rows.ConsoleRow.{ConsoleRow}
use Rattle.opc_board.specs.Invariants.{console_at}
use Rattle.opc_state.specs.Loads.{is_connected}
use Rattle.opc_state.specs.State.{State}
use Rattle.opc_check_notes.specs.declared.numbered.NumberedRow.{NumberedRow}
use Rattle.opc_check_notes.specs.Effect.{in_effect}

-- a row is among those of a file that no later one replaces
abbrev pub IsInEffect : List Row → Row → Type 0
IsInEffect all row = Contains (map (λ (at : NumberedRow). at.row) (in_effect 1 all)) row

-- a profile as the row that defines it
abbrev pub definition : Profile → Row
definition p = rows.Profile p.class p.pattern p.uacc p.owner p.warning

-- the level of an entry of an access list
abbrev pub level_of : Policy → Class → (pattern id : List ℕ) → (when : Option (List ℕ)) → Option Level
level_of p class pattern id when =
    option_and_then (λ (profile : Profile). entry_level profile.entries when id) (profile_of p.profiles class pattern)

-- What is stored where a row would be, as a row: of the same class, group, user, connect, console, profile or entry.
abbrev pub stored_for : Policy → BoardRows → Row → Option Row
stored_for p b (rows.Class class active) = Some (rows.Class class (is_active p.active class))
stored_for p b (rows.Group name) = if has_group p name then Some (rows.Group name) else None
stored_for p b (rows.User user) = option_map (λ (u : User). rows.User u) (user_of p.users user.id)
stored_for p b (rows.Connect user group) =
    if is_connected p user group then Some (rows.Connect user group) else None
stored_for p b (rows.Console name auth mode) =
    option_map (λ (c : ConsoleRow). rows.Console name c.auth c.mode) (console_at b name)
stored_for p b (rows.Profile class pattern uacc owner warning) =
    option_map definition (profile_of p.profiles class pattern)
stored_for p b (rows.Permit class pattern id level when) =
    option_map (λ (l : Level). rows.Permit class pattern id l when) (level_of p class pattern id when)

-- a state has what a row states
abbrev pub IsStored : State → Row → Type 0
IsStored s row = stored_for s.policy s.board row ≡ Some row
