-- What the rows of an import do, for those who write them.
use Rattle.std.specs.Prelude.{◌≡◌, ◌≢◌, ℕ, Bool, true, false, not, List, [], ◌∷◌, ◌++◌, Option, Some, None, Ok, Err}
use Rattle.std.specs.List.{AllByRecursion}
use Rattle.std.specs.Option.{is_some}
use Rattle.opc_names.specs.declared.auth.Auth.{Auth}
use Rattle.opc_names.specs.declared.class.Class.{Class}
use Rattle.opc_names.specs.declared.level.Level.{Level}
use Rattle.opc_names.specs.Names.{IsPattern}
use Rattle.opc_terms.specs.declared.fault.Fault.{Fault}
use Rattle.opc_terms.specs.declared.fault.Fault.TheVariants.{Exists, LastMaster, Missing}
use Rattle.opc_terms.specs.declared.mode.Mode.{Mode}
use Rattle.opc_policy_members.specs.declared.entry.Entry.{Entry}
use Rattle.opc_policy_members.specs.declared.policy.Policy.{Policy}
use Rattle.opc_policy_members.specs.declared.profile.Profile.{Profile}
use Rattle.opc_policy_members.specs.declared.row.Row.{Row}
use Rattle.opc_policy_members.specs.declared.row.Row.TheVariants as rows
use Rattle.opc_policy_members.specs.Access.{entry_level}
use Rattle.opc_policy_members.specs.Members.{user_of}
use Rattle.opc_policy_members.specs.Profiles.{profile_of}
use Rattle.opc_policy_members.specs.Taken.{after_row, has_group, has_holder, has_user, is_active}
use Rattle.opc_board.specs.declared.board.BoardRows.{BoardRows}
use Rattle.opc_board.specs.declared.rows.ConsoleRow.{ConsoleRow}
use Rattle.opc_board.specs.Consoles.{console_defined}
use Rattle.opc_board.specs.Invariants.{Name, console_at}
use Rattle.opc_state.specs.declared.change.Batch.{Batch}
use Rattle.opc_state.specs.Loads.{is_connected}
use Rattle.opc_state.specs.Members.{with_batch}
use Rattle.opc_state.specs.State.{State}
use Rattle.opc_machine.specs.Bootstrap.{with_rows}
use Rattle.opc_machine.specs.Imports.{batch_of}
use Rattle.opc_machine_laws.specs.EffectLaws.{OnlyConsoles}
use Rattle.opc_machine_laws.specs.ObstacleLaws.{first_obstacle, is_defined, is_listed}
use Rattle.opc_machine_laws.specs.TakingLaws.{AreDefined, AreTaken, KeepsMaster}

-- The profiles of a policy have patterns, and so has a row that defines one.
abbrev pub HasPattern : Profile → Type 0
HasPattern profile = IsPattern profile.pattern

abbrev pub IsWritten : Row → Type 0
IsWritten (rows.Profile class pattern uacc owner warning) = IsPattern pattern
IsWritten other = Unit {0}

-- Not both are the same.
abbrev pub IsOther : {A B : Type 0} → A → B → A → B → Type 0
IsOther a b c d = a ≡ c → b ≡ d → ⊥

-- A user row, for example, leaves the user of its id exactly as the row states, with the flags that it names and no
-- other, and each other user as before.
pub record IsKept {K R : Type 0} (old new : K → R) (key : K) (row : R) : Type 0 where
  pub here : new key ≡ row
  pub others : (other : K) → other ≢ key → new other ≡ old other

-- A profile that is there keeps its access list, and a new one has none.
pub record ProfileBecomes (profile : Profile) (old new : Policy) : Type 0 where
  pub kept : (was : Profile) → profile_of old.profiles profile.class
      profile.pattern
      ≡ Some was
      → profile_of new.profiles profile.class profile.pattern ≡ Some (record profile { entries = was.entries })
  pub fresh : profile_of old.profiles profile.class profile.pattern ≡ None
      → profile_of new.profiles profile.class profile.pattern ≡ Some (record profile { entries = [] })
  pub others : (class : Class) (pattern : List ℕ) → IsOther class pattern profile.class profile.pattern
      → profile_of new.profiles class pattern ≡ profile_of old.profiles class pattern

-- An access list has this level for an id, at one console or at every console, or none; its other entries and all else
-- stay.
pub record IsPermitted (class : Class) (pattern id : List ℕ) (when : Option (List ℕ)) (level : Option Level)
    (old new : Policy) : Type 0 where
  pub profile : Profile
  pub entries : List Entry
  pub there : profile_of old.profiles class pattern ≡ Some profile
  pub here : profile_of new.profiles class pattern ≡ Some (record profile { entries = entries })
  pub given : entry_level entries when id ≡ level
  pub listed : (other : List ℕ) (place : Option (List ℕ)) → IsOther other place id when
      → entry_level entries place other ≡ entry_level profile.entries place other
  pub others : (c : Class) (p : List ℕ) → IsOther c p class pattern
      → profile_of new.profiles c p ≡ profile_of old.profiles c p

-- A row does this to a policy, and nothing else.
abbrev pub HasTaken : Row → Policy → Policy → Type 0
HasTaken (rows.Class class on) old new =
    IsKept (is_active old.active) (is_active new.active) class on × (new ≡ record old { active = new.active })
HasTaken (rows.Group name) old new = IsKept (has_group old) (has_group new) name true
    × (new ≡ record old { groups = new.groups })
HasTaken (rows.User user) old new = IsKept (user_of old.users) (user_of new.users) user.id (Some user)
    × (new ≡ record old { users = new.users })
HasTaken (rows.Connect user group) old new =
    IsKept (λ (c : List ℕ × List ℕ). is_connected old c.0 c.1) (λ (c : List ℕ × List ℕ). is_connected new c.0 c.1)
    (user, group) true × (new ≡ record old { connects = new.connects })
HasTaken (rows.Console name auth mode) old new = new ≡ old
HasTaken (rows.Profile class pattern uacc owner warning) old new =
    ProfileBecomes (record {
      class = class;
      pattern = pattern;
      owner = owner;
      uacc = uacc;
      warning = warning;
      entries = [];
    }) old new × (new ≡ record old { profiles = new.profiles })
HasTaken (rows.Permit class pattern id level when) old new =
    IsPermitted class pattern id when (Some level) old new × (new ≡ record old { profiles = new.profiles })

abbrev pub RowsDoWhatTheySay : Type 0
RowsDoWhatTheySay = (row : Row) (old new : Policy) → AllByRecursion HasPattern old.profiles → IsWritten row
    → after_row row old ≡ Ok new → HasTaken row old new

-- A console row sets the authority and the mode of a console that is there; a new console is online with nobody logged
-- on.
pub record ConsoleIsDefined (name : Name) (auth : Auth) (mode : Mode) (old new : BoardRows) : Type 0 where
  pub kept : (c : ConsoleRow) → console_at old name ≡ Some c
      → console_at new name ≡ Some (record c { auth = auth; mode = mode })
  pub fresh : console_at old name ≡ None → console_at new name ≡ Some (record {
    name = name;
    auth = auth;
    mode = mode;
    online = true;
    user = None;
    monitor = false;
  })
  pub others : (other : Name) → other ≢ name → console_at new other ≡ console_at old other
  pub rest : OnlyConsoles old new

abbrev pub ConsolesAreDefined : Type 0
ConsolesAreDefined = (name : Name) (auth : Auth) (mode : Mode) (b : BoardRows)
    → ConsoleIsDefined name auth mode b (console_defined name auth mode b)

-- Nothing that was there is gone: no user, group, connect, profile or entry,
pub record KeepsAll (old new : Policy) : Type 0 where
  pub users : (id : List ℕ) → has_user old id ≡ true → has_user new id ≡ true
  pub groups : (name : List ℕ) → has_group old name ≡ true → has_group new name ≡ true
  pub connects : (user group : List ℕ) → is_connected old user group ≡ true → is_connected new user group ≡ true
  pub profiles : (class : Class) (pattern : List ℕ) → is_defined old class pattern ≡ true
      → is_defined new class pattern ≡ true
  pub entries : (class : Class) (pattern id : List ℕ) (when : Option (List ℕ))
      → is_listed old class pattern id when ≡ true → is_listed new class pattern id when ≡ true

-- and no console; the rest of the board stays as it is.
pub record KeepsConsoles (old new : BoardRows) : Type 0 where
  pub consoles : (name : Name) → is_some (console_at old name) ≡ true → is_some (console_at new name) ≡ true
  pub rest : OnlyConsoles old new

abbrev pub RowsNeverDelete : Type 0
RowsNeverDelete = (all : List Row) (s new : State) → AllByRecursion HasPattern s.policy.profiles
    → AllByRecursion IsWritten all → with_rows all s ≡ Ok new → KeepsAll s.policy new.policy
    × KeepsConsoles s.board new.board

-- What may be in the way of a row, in the order in which it is reported: a user of the group's name, or a group of the
-- user's; what it names and is not stored.
abbrev pub row_obstacles : Policy → Row → List (Bool × Fault)
row_obstacles p (rows.Class class on) = []
row_obstacles p (rows.Group name) = (has_user p name, Exists name) ∷ []
row_obstacles p (rows.User user) = (has_group p user.id, Exists user.id) ∷ []
row_obstacles p (rows.Connect user group) =
    (not (has_user p user), Missing user) ∷ (not (has_group p group), Missing group) ∷ []
row_obstacles p (rows.Console name auth mode) = []
row_obstacles p (rows.Profile class pattern uacc owner warning) = (not (has_user p owner), Missing owner) ∷ []
row_obstacles p (rows.Permit class pattern id level when) =
    (not (is_defined p class pattern), Missing pattern) ∷ (not (has_holder p id), Missing id) ∷ []

-- A row is taken if nothing is in its way.
abbrev pub RowsAreTakenWithoutObstacle : Type 0
RowsAreTakenWithoutObstacle = (row : Row) (old : Policy) → first_obstacle (row_obstacles old row) ≡ None
    → (new : Policy) × (after_row row old ≡ Ok new)

-- The first row that has an obstacle is refused by its first one, and all rows with it;
abbrev pub RowObstaclesAreFaults : Type 0
RowObstaclesAreFaults =
    (before : List Row) (row : Row) (more : List Row) (s : State) (reached : Policy) (fault : Fault)
    → AreTaken before s.policy reached → first_obstacle (row_obstacles reached row) ≡ Some fault
    → with_rows (before ++ row ∷ more) s ≡ Err fault

-- if none has, they are refused if all of them would lose the last online console with AUTH MASTER.
abbrev pub RowsKeepAMasterOrAreRefused : Type 0
RowsKeepAMasterOrAreRefused =
    (all : List Row) (s : State) (policy : Policy) (board : BoardRows) → AreTaken all s.policy policy
    → AreDefined all s.board board → (KeepsMaster s (record s {
      policy = policy;
      board = board;
    }) → ⊥)
    → with_rows all s ≡ Err LastMaster

-- A batch that is stored is found by its number from then on, and each other one as before.
abbrev pub BatchesAreKept : Type 0
BatchesAreKept = (batch : Batch) (batches : List Batch)
    → IsKept (batch_of batches) (batch_of (with_batch batch batches)) batch.number (Some batch)
