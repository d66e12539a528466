-- Why a ruling is what it is, for those on whom it is made.
use Rattle.std.specs.Prelude.{◌≡◌, ◌⊎◌, ℕ, Bool, true, false, not, ◌&&◌, ◌||◌, List, Option, Some, None}
use Rattle.opc_names.specs.declared.class.Class.{Class}
use Rattle.opc_names.specs.declared.class.Class.TheVariants.{Console, Opercmds}
use Rattle.opc_names.specs.declared.level.Level.{Level}
use Rattle.opc_names.specs.declared.level.Level.TheVariants.{Read}
use Rattle.opc_names.specs.Authority.{enters, includes}
use Rattle.opc_terms.specs.declared.mode.Mode.TheVariants.{Required}
use Rattle.opc_terms.specs.declared.need.Need.{Need}
use Rattle.opc_policy_members.specs.declared.profile.Profile.{Profile}
use Rattle.opc_terms.specs.declared.rule.Rule.{Rule}
use Rattle.opc_terms.specs.declared.rule.Rule.TheVariants as rule
use Rattle.opc_policy.specs.declared.ruling.Ruling.{Ruling}
use Rattle.opc_policy.specs.declared.ruling.Ruling.TheVariants.{Allowed, Denied}
use Rattle.opc_policy_members.specs.declared.user.User.{User}
use Rattle.opc_policy_members.specs.Held.{held}
use Rattle.opc_policy_members.specs.Members.{groups_of}
use Rattle.opc_policy_members.specs.Taken.{is_active}
use Rattle.opc_board.specs.declared.rows.ConsoleRow.{ConsoleRow}
use Rattle.opc_state.specs.State.{State, deciding_in}
use Rattle.opc_machine.specs.Rulings.{acting, logon_denial, logon_ruling, ruling}

-- what is ruled, and why
abbrev pub said : Bool → Rule → Ruling
said true why = Allowed why
said false why = Denied why

-- what a user holds at a console by a profile
abbrev pub held_at : State → ConsoleRow → User → Profile → Level
held_at s console user p = held p user (Some console.name) (groups_of s.policy.connects user.id)

-- A profile of an active class decides: it allows a user who holds what is needed, and others if it only warns. The
-- rule names it, and names a warning if and only if that alone lets the request pass.
pub record IsByProfile (s : State) (console : ConsoleRow) (user : User) (class : Class) (resource : List ℕ)
    (needed : Level) (ruled : Ruling) : Type 0 where
  pub profile : Profile
  pub active : is_active s.policy.active class ≡ true
  pub decides : deciding_in s.policy class resource ≡ Some profile
  pub of_class : profile.class ≡ class
  pub says : ruled ≡ said (includes (held_at s console user profile) needed || profile.warning) (rule.Profile
      profile.class profile.pattern (held_at s console user profile) needed
      (not (includes (held_at s console user profile) needed) && profile.warning))

-- No profile decides: the class is not active, or none covers.
abbrev pub IsUndecided : State → Class → List ℕ → Type 0
IsUndecided s class resource = (is_active s.policy.active class ≡ false) ⊎ (deciding_in s.policy class resource ≡ None)

-- A REQUIRED console is unattended.
abbrev pub IsUnattended : ConsoleRow → Type 0
IsUnattended console = (console.mode ≡ Required) × (console.user ≡ None)

-- The logon rule denies first if somebody must be logged on,
pub record IsDeniedUnattended (console : ConsoleRow) (denial : Option Rule) : Type 0 where
  pub unattended : IsUnattended console
  pub says : denial ≡ Some rule.LogonRequired

-- then if the acting user is revoked,
pub record IsDeniedRevoked (s : State) (console : ConsoleRow) (denial : Option Rule) : Type 0 where
  pub attended : IsUnattended console → ⊥
  pub user : User
  pub acts : acting s console ≡ Some user
  pub revoked : user.revoked ≡ true
  pub says : denial ≡ Some rule.Revoked

-- and otherwise nothing.
pub record IsFree (s : State) (console : ConsoleRow) (denial : Option Rule) : Type 0 where
  pub attended : IsUnattended console → ⊥
  pub trusted : (user : User) → acting s console ≡ Some user → user.revoked ≡ false
  pub says : denial ≡ None

abbrev pub LogonRuleSaysWhy : Type 0
LogonRuleSaysWhy = (s : State) (console : ConsoleRow) → IsDeniedUnattended console (logon_denial s console)
    ⊎ (IsDeniedRevoked s console (logon_denial s console) ⊎ IsFree s console (logon_denial s console))

-- What a command needs is ruled by the first of these that applies: the logon rule,
pub record IsRuledByLogon (s : State) (console : ConsoleRow) (ruled : Ruling) : Type 0 where
  pub why : Rule
  pub denied : logon_denial s console ≡ Some why
  pub says : ruled ≡ Denied why

-- the profile of OPERCMDS that decides on the acting user,
pub record IsRuledByProfile (s : State) (console : ConsoleRow) (need : Need) (ruled : Ruling) : Type 0 where
  pub free : logon_denial s console ≡ None
  pub user : User
  pub acts : acting s console ≡ Some user
  pub by : IsByProfile s console user Opercmds need.resource need.level ruled

-- the console's authority.
pub record IsRuledByConsole (s : State) (console : ConsoleRow) (need : Need) (ruled : Ruling) : Type 0 where
  pub free : logon_denial s console ≡ None
  pub undecided : (acting s console ≡ None) ⊎ IsUndecided s Opercmds need.resource
  pub says : ruled ≡ said (enters console.auth need.group) (rule.ConsoleGroup need.group console.auth)

abbrev pub RulingsSayWhy : Type 0
RulingsSayWhy = (s : State) (console : ConsoleRow) (need : Need) → IsRuledByLogon s console (ruling s console need)
    ⊎ (IsRuledByProfile s console need (ruling s console need)
    ⊎ IsRuledByConsole s console need (ruling s console need))

-- A user who logs on is refused if revoked, then ruled on by the profile of CONSOLE that decides, and otherwise
-- admitted.
pub record IsRuledAtLogon (s : State) (console : ConsoleRow) (user : User) (ruled : Ruling) : Type 0 where
  pub revoked : user.revoked ≡ true → ruled ≡ Denied rule.Revoked
  pub trusted : user.revoked ≡ false → IsByProfile s console user Console console.name Read ruled
      ⊎ (IsUndecided s Console console.name × (ruled ≡ Allowed rule.NoProfile))

abbrev pub LogonRulingsSayWhy : Type 0
LogonRulingsSayWhy = (s : State) (console : ConsoleRow) (user : User)
    → IsRuledAtLogon s console user (logon_ruling s console user)
