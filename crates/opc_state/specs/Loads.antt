-- What the loads of tables return of a state.
use Rattle.std.specs.Prelude.{ℕ, ◌-◌, ◌==◌, ◌||◌, ◌&&◌, Bool, List, [], Option, filter, find, take, drop}
use Rattle.std.specs.List.{list_any, enumerate_from}
use Rattle.std.specs.Option.{option_map, option_map_or}
use Rattle.std.specs.Str.{bytes_eq}
use Rattle.opc_names.specs.declared.class.Class.{Class}
use Rattle.opc_names.specs.declared.level.Level.{Level}
use Rattle.opc_policy_members.specs.declared.connect.Connect.{Connect}
use Rattle.opc_policy_members.specs.declared.entry.Entry.{Entry}
use Rattle.opc_policy_members.specs.declared.policy.Policy.{Policy}
use Rattle.opc_policy_members.specs.declared.profile.Profile.{Profile}
use Rattle.opc_policy_members.specs.declared.row.Row.{Row}
use Rattle.opc_policy_members.specs.Access.{entry_level}
use Rattle.opc_policy_members.specs.Profiles.{profile_of}
use Rattle.opc_board.specs.declared.board.BoardRows.{BoardRows}
use Rattle.opc_board.specs.declared.rows.ConsoleRow.{ConsoleRow}
use Rattle.opc_board.specs.declared.rows.DeviceRow.{DeviceRow}
use Rattle.opc_board.specs.Invariants.{Name, is_master}
use Rattle.opc_board.specs.Units.{is_holder}
use Rattle.opc_state.specs.declared.account.AccountRow.{AccountRow}
use Rattle.opc_state.specs.declared.change.Batch.{Batch}

-- the devices that a unit has, and the consoles where a user is logged on
abbrev pub devices_of : BoardRows → Name → List DeviceRow
devices_of b unit = filter (λ d. is_holder unit d.unit) b.devices

abbrev pub consoles_of : BoardRows → Name → List ConsoleRow
consoles_of b user = filter (λ c. is_holder user c.user) b.consoles

-- the online consoles with AUTH MASTER
abbrev pub masters : BoardRows → List ConsoleRow
masters b = filter is_master b.consoles

-- a profile without its access list
abbrev pub bare : Profile → Profile
bare p = record p { entries = [] }

-- the access list of a profile; one that is not defined has none
abbrev pub access_list : Policy → Class → List ℕ → List Entry
access_list p class pattern = option_map_or (λ (q : Profile). q.entries) (profile_of p.profiles class pattern) []

-- the level of its entry for an id, at one console or at every console
abbrev pub level_for : Policy → Class → List ℕ → List ℕ → Option (List ℕ) → Option Level
level_for p class pattern id when = entry_level (access_list p class pattern) when id

abbrev pub is_connected : Policy → List ℕ → List ℕ → Bool
is_connected p user group = list_any (λ (c : Connect). bytes_eq c.user user && bytes_eq c.group group) p.connects

-- whether an access list has an entry for an id
abbrev pub has_entry : List ℕ → Profile → Bool
has_entry id p = list_any (λ (e : Entry). bytes_eq e.id id) p.entries

-- whether a connect, an owner or an access list names a user
abbrev pub is_named : Policy → List ℕ → Bool
is_named p id = list_any (λ (c : Connect). bytes_eq c.user id) p.connects
    || list_any (λ (q : Profile). bytes_eq q.owner id || has_entry id q) p.profiles

-- the rows of the account with their numbers
abbrev pub numbered : List AccountRow → List (ℕ × AccountRow)
numbered account = enumerate_from 1 account

-- those from a number on, at most as many as requested
abbrev pub asked_for : ℕ → ℕ → List AccountRow → List (ℕ × AccountRow)
asked_for from count account = take count (drop (from - 1) (numbered account))

-- the rows of a batch that is stored
abbrev pub batch_rows : List Batch → ℕ → Option (List Row)
batch_rows batches number = option_map (λ (b : Batch). b.rows) (find (λ (b : Batch). b.number == number) batches)
