-- For whom consoles act, for those who sit at them.
use Rattle.std.specs.Prelude.{◌≡◌, ◌⊎◌, ℕ, true, false, List, Option, Some, None, codes}
use Rattle.opc_terms.specs.declared.mode.Mode.TheVariants.{Optional, Auto, Required}
use Rattle.opc_terms.specs.declared.need.Need.{Need}
use Rattle.opc_policy_members.specs.declared.profile.Profile.{Profile}
use Rattle.opc_terms.specs.declared.rule.Rule.{Rule}
use Rattle.opc_policy_members.specs.Members.{user_of}
use Rattle.opc_policy.specs.Rulings.{console_ruling}
use Rattle.opc_policy_members.specs.Taken.{has_user}
use Rattle.opc_board.specs.declared.line.Line.{Line}
use Rattle.opc_board.specs.declared.rows.ConsoleRow.{ConsoleRow}
use Rattle.opc_board.specs.Invariants.{console_at}
use Rattle.opc_board.specs.Texts.{text_or}
use Rattle.opc_state.specs.State.{State}
use Rattle.opc_machine.specs.Inputs.{Input, console_of}
use Rattle.opc_machine.specs.Machine.{account_row}
use Rattle.opc_machine.specs.declared.operation.Operation.{Operation}
use Rattle.opc_machine.specs.Rights.{account_shown, may_change, profile_shown}
use Rattle.opc_machine.specs.Rulings.{acting, logon_denial, ruling, shown}

-- Nobody acts at a console, or the stored user of this id, if there is one.
abbrev pub IsActing : State → ConsoleRow → Option (List ℕ) → Type 0
IsActing s console None = acting s console ≡ None
IsActing s console (Some id) = acting s console ≡ user_of s.policy.users id

-- At one console the same may be done, shown, administered and listed as at another.
pub record ActsAs (s : State) (console other : ConsoleRow) : Type 0 where
  pub logon : logon_denial s console ≡ logon_denial s other
  pub rulings : (need : Need) → ruling s console need ≡ ruling s other need
  pub lines : (line : Line) → shown s console line ≡ shown s other line
  pub rights : (o : Operation) → may_change s console o ≡ may_change s other o
  pub profiles : (p : Profile) → profile_shown s console p ≡ profile_shown s other p
  pub account : account_shown s console ≡ account_shown s other

-- What is accounted for a console names this user, or nobody.
abbrev pub IsAccountedTo : State → ConsoleRow → Option (List ℕ) → Type 0
IsAccountedTo s console user =
    (moment : ℕ) (r : Input) (name code : List ℕ) (why : Option Rule) → console_of r ≡ Some name
    → console_at s.board name ≡ Some console
    → (account_row s moment r code why).user ≡ text_or (codes "-") user

-- A console acts for this user, or for nobody, and is accounted like that.
pub record ActsFor (s : State) (console : ConsoleRow) (user : Option (List ℕ)) : Type 0 where
  pub acts : IsActing s console user
  pub returned : IsAccountedTo s console user

-- An unattended AUTO console acts for the user of its own name, as if that user were logged on, if such a user is
-- stored,
abbrev pub AutoConsolesActForTheirOwn : Type 0
AutoConsolesActForTheirOwn =
    (s : State) (console : ConsoleRow) → console.mode ≡ Auto → console.user ≡ None
    → has_user s.policy console.name ≡ true
    → ActsFor s console (Some console.name) × ActsAs s console (record console { user = Some console.name })

-- By its authority alone: as an unattended OPTIONAL console.
pub record ActsAlone (s : State) (console : ConsoleRow) : Type 0 where
  pub logon : logon_denial s console ≡ None
  pub rulings : (need : Need) → ruling s console need ≡ console_ruling console.auth need
  pub rights : (o : Operation) → may_change s console o ≡ false
  pub profiles : (p : Profile) → profile_shown s console p ≡ false
  pub account : account_shown s console ≡ false
  pub nobody : ActsFor s console None

-- and otherwise for nobody.
abbrev pub OtherAutoConsolesActAlone : Type 0
OtherAutoConsolesActAlone =
    (s : State) (console : ConsoleRow) → console.mode ≡ Auto → console.user ≡ None
    → has_user s.policy console.name ≡ false → ActsAlone s console

-- An unattended OPTIONAL console does the same, whoever is stored.
abbrev pub OptionalConsolesActAlone : Type 0
OptionalConsolesActAlone = (s : State) (console : ConsoleRow) → console.mode ≡ Optional → console.user ≡ None
    → ActsAlone s console

-- Whoever is logged on comes first: whatever the mode, a console acts for the user who is logged on.
abbrev pub WhoIsOnComesFirst : Type 0
WhoIsOnComesFirst =
    (s : State) (console : ConsoleRow) (user : List ℕ) → console.user ≡ Some user
    → ActsFor s console (Some user) × ActsAs s console (record console { mode = Optional })

-- An unattended REQUIRED console acts for nobody, whoever is stored.
abbrev pub RequiredConsolesActForNobody : Type 0
RequiredConsolesActForNobody = (s : State) (console : ConsoleRow)
    → console.mode ≡ Required → console.user ≡ None → ActsFor s console None

-- What names no console, or none that is there, is accounted to nobody.
abbrev pub IsAskedNowhere : State → Input → Type 0
IsAskedNowhere s r = (console_of r ≡ None)
    ⊎ ((name : List ℕ) × (console_of r ≡ Some name) × (console_at s.board name ≡ None))

abbrev pub OthersAreAccountedToNobody : Type 0
OthersAreAccountedToNobody = (s : State) (moment : ℕ) (r : Input) (code : List ℕ) (why : Option Rule)
    → IsAskedNowhere s r → (account_row s moment r code why).user ≡ codes "-"
