-- What is stored, for those who name it.
use Rattle.std.specs.Prelude.{◌≡◌, ◌⊎◌, ◌↔◌, ℕ, true, List, Some, codes, Contains}
use Rattle.opc_names.specs.declared.auth.Auth.TheVariants.{Master}
use Rattle.opc_policy_members.specs.declared.connect.Connect.{Connect}
use Rattle.opc_policy_members.specs.declared.entry.Entry.{Entry}
use Rattle.opc_policy_members.specs.declared.policy.Policy.{Policy}
use Rattle.opc_policy_members.specs.declared.profile.Profile.{Profile}
use Rattle.opc_policy_members.specs.declared.user.User.{User}
use Rattle.opc_policy_members.specs.Members.{groups_of, user_of}
use Rattle.opc_policy_members.specs.Taken.{has_group, has_holder, has_user}
use Rattle.opc_board.specs.declared.board.BoardRows.{BoardRows}
use Rattle.opc_board.specs.declared.rows.ConsoleRow.{ConsoleRow}
use Rattle.opc_board.specs.declared.rows.UnitKind.TheVariants.{Tsu}
use Rattle.opc_board.specs.declared.rows.UnitRow.{UnitRow}
use Rattle.opc_board.specs.Invariants.{Name, has_master, unit_at}
use Rattle.opc_board.specs.Replies.{has_session, is_on}
use Rattle.opc_state.specs.Loads.{is_connected, is_named}

-- A user is stored if one has that id, and a group if its name is there; an entry of an access list may be for either,
-- or for everyone.
pub record NamesAreStored (p : Policy) (name : List ℕ) : Type 0 where
  pub user : (has_user p name ≡ true) ↔ ((u : User) × Contains p.users u × (u.id ≡ name))
  pub found : (u : User) → user_of p.users name ≡ Some u → Contains p.users u × (u.id ≡ name)
  pub group : (has_group p name ≡ true) ↔ Contains p.groups name
  pub holder : (has_holder p name ≡ true)
      ↔ ((name ≡ codes "*") ⊎ ((has_user p name ≡ true) ⊎ (has_group p name ≡ true)))

abbrev pub StoredIsWhatIsThere : Type 0
StoredIsWhatIsThere = (p : Policy) (name : List ℕ) → NamesAreStored p name

-- A user is connected to a group by the connect of both, and the groups of a user are those and no other.
pub record IsConnectedBy (p : Policy) (user group : List ℕ) : Type 0 where
  pub connected : (is_connected p user group ≡ true) ↔ Contains p.connects (record { user = user; group = group })
  pub listed : Contains (groups_of p.connects user) group ↔ Contains p.connects (record { user = user; group = group })

abbrev pub ConnectsConnect : Type 0
ConnectsConnect = (p : Policy) (user group : List ℕ) → IsConnectedBy p user group

-- A user is named by a connect, as an owner, or by an entry of an access list, for whatever console it is.
abbrev pub IsNamedIn : Policy → List ℕ → Type 0
IsNamedIn p id =
    ((c : Connect) × Contains p.connects c × (c.user ≡ id))
    ⊎ ((q : Profile) × Contains p.profiles q × ((q.owner ≡ id) ⊎ ((e : Entry) × Contains q.entries e × (e.id ≡ id))))

abbrev pub NamedIsWhoIsNamed : Type 0
NamedIsWhoIsNamed = (p : Policy) (id : List ℕ) → (is_named p id ≡ true) ↔ IsNamedIn p id

-- A user is logged on at a console of the board, online or not.
abbrev pub OnIsWhoIsOn : Type 0
OnIsWhoIsOn = (user : Name) (b : BoardRows)
    → (is_on user b ≡ true) ↔ ((c : ConsoleRow) × Contains b.consoles c × (c.user ≡ Some user))

-- A user has a session if a unit of that name is one.
abbrev pub SessionsAreOfTheirUsers : Type 0
SessionsAreOfTheirUsers = (user : Name) (b : BoardRows)
    → (has_session user b ≡ true) ↔ ((unit : UnitRow) × (unit_at b user ≡ Some unit) × (unit.kind ≡ Tsu))

-- A master is there if an online console has AUTH MASTER, and no other counts.
abbrev pub MastersAreOnline : Type 0
MastersAreOnline = (consoles : List ConsoleRow) → (has_master consoles ≡ true)
    ↔ ((c : ConsoleRow) × Contains consoles c × (c.online ≡ true) × (c.auth ≡ Master))
