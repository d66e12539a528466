-- What holds of every state that the machine reaches.
use Rattle.std.specs.Prelude.{◌≡◌, ℕ, true, false, List, IfSome}
use Rattle.std.specs.List.{AllByRecursion}
use Rattle.std.specs.Ordering.{is_lt}
use Rattle.opc_policy_members.specs.declared.connect.Connect.{Connect}
use Rattle.opc_policy_members.specs.declared.entry.Entry.{Entry}
use Rattle.opc_policy_members.specs.declared.policy.Policy.{Policy}
use Rattle.opc_policy_members.specs.declared.profile.Profile.{Profile}
use Rattle.opc_policy_members.specs.declared.user.User.{User}
use Rattle.opc_policy_members.specs.Access.{entry_cmp}
use Rattle.opc_policy_members.specs.Members.{user_cmp}
use Rattle.opc_policy_members.specs.Profiles.{profile_cmp}
use Rattle.opc_policy_members.specs.Taken.{has_user, has_group, has_holder}
use Rattle.opc_rows.specs.Ordered.{Ascends}
use Rattle.opc_board.specs.declared.rows.ConsoleRow.{ConsoleRow}
use Rattle.opc_board.specs.Invariants.{IsBoard}
use Rattle.opc_board.specs.Footprint.{IsInOrder}
use Rattle.opc_state.specs.State.{State}

-- the user and the group of a connect are stored
abbrev pub IsConnectOfStored : Policy → Connect → Type 0
IsConnectOfStored p c = (has_user p c.user ≡ true) × (has_group p c.group ≡ true)

-- the holder of an entry is stored: a user, a group, or everyone
abbrev pub IsEntryOfStored : Policy → Entry → Type 0
IsEntryOfStored p e = has_holder p e.id ≡ true

-- and so are the owner of a profile and all holders of its access list
abbrev pub IsProfileOfStored : Policy → Profile → Type 0
IsProfileOfStored p profile = (has_user p profile.owner ≡ true) × AllByRecursion (IsEntryOfStored p) profile.entries

-- A policy names users and groups that it has, and no user and group have one name.
pub record IsPolicy (p : Policy) : Type 0 where
  pub apart : AllByRecursion (λ (group : List ℕ). has_user p group ≡ false) p.groups
  pub connects : AllByRecursion (IsConnectOfStored p) p.connects
  pub profiles : AllByRecursion (IsProfileOfStored p) p.profiles

-- whoever is logged on at a console is stored
abbrev pub IsConsoleOfStored : Policy → ConsoleRow → Type 0
IsConsoleOfStored p c = IfSome c.user (λ id. has_user p id ≡ true)

pub record IsState (s : State) : Type 0 where
  pub board : IsBoard s.board
  pub policy : IsPolicy s.policy
  pub logons : AllByRecursion (IsConsoleOfStored s.policy) s.board.consoles

-- What a state keeps by keys is in the order of the keys, and no key comes twice.
pub record IsKeyed (s : State) : Type 0 where
  pub board : IsInOrder s.board
  pub users : Ascends (λ (u v : User). is_lt (user_cmp u v)) s.policy.users
  pub profiles : Ascends (λ (q r : Profile). is_lt (profile_cmp q r)) s.policy.profiles
  pub entries : AllByRecursion (λ (q : Profile). Ascends (λ (e f : Entry). is_lt (entry_cmp e f)) q.entries)
      s.policy.profiles
