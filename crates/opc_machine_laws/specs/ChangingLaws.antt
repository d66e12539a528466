-- What the access machine means for those who administer, list and import.
use Rattle.std.specs.Prelude.{◌≡◌, ◌⊎◌, ◌↔◌, ℕ, ◌+◌, ◌-◌, ◌<◌, ◌≤◌, true, List, [], ◌∷◌, Option, Some, None, Ok}
use Rattle.std.specs.Prelude.{Contains, codes, filter, map}
use Rattle.std.specs.List.{slice_get}
use Rattle.opc_names.specs.declared.class.Class.{Class}
use Rattle.opc_policy_members.specs.declared.profile.Profile.{Profile}
use Rattle.opc_policy_members.specs.declared.row.Row.{Row}
use Rattle.opc_terms.specs.declared.rule.Rule.{Rule}
use Rattle.opc_policy_members.specs.Profiles.{AreMostSpecificFirst, of_class}
use Rattle.opc_board.specs.declared.line.Line.{Line}
use Rattle.opc_board.specs.declared.rows.ConsoleRow.{ConsoleRow}
use Rattle.opc_board.specs.Invariants.{console_at}
use Rattle.opc_state.specs.declared.account.AccountRow.{AccountRow}
use Rattle.opc_state.specs.declared.change.Batch.{Batch}
use Rattle.opc_state.specs.Invariants.{IsKeyed}
use Rattle.opc_state.specs.Members.{with_batch}
use Rattle.opc_state.specs.State.{State}
use Rattle.opc_state.specs.Loads.{asked_for}
use Rattle.opc_machine.specs.declared.request.Answer.{Answer}
use Rattle.opc_machine.specs.declared.request.Answer.TheVariants.{Done}
use Rattle.opc_machine.specs.Administration.{changed}
use Rattle.opc_machine.specs.Bootstrap.{with_rows}
use Rattle.opc_machine.specs.Imports.{batch_line, batch_of, same_rows}
use Rattle.opc_machine.specs.Inputs as input
use Rattle.opc_machine.specs.Listings.{account_line, profile_line}
use Rattle.opc_machine.specs.Machine.{IsAborted, Step}
use Rattle.opc_machine.specs.declared.operation.Operation.{Operation}
use Rattle.opc_machine.specs.Rights.{account_shown, is_special, may_change, profile_shown}
use Rattle.opc_machine.specs.Rulings.{acting, logon_denial}

-- A console may make a request: it is there and online, and the logon rule does not deny it.
pub record MayAsk (s : State) (name : List ℕ) (console : ConsoleRow) : Type 0 where
  pub there : console_at s.board name ≡ Some console
  pub online : console.online ≡ true
  pub logon : logon_denial s console ≡ None

-- Administration is done only if the policy at that time gives the right, and does what it states,
abbrev pub AdministersOnlyWhereAllowed : Type 0
AdministersOnlyWhereAllowed =
    (s : State) (moment : ℕ) (name : List ℕ) (o : Operation) (lines : List Line) (why : Option Rule) (new : State)
    → Step s moment (input.Admin name o) (Done lines why) new
    → (console : ConsoleRow) × MayAsk s name console × (may_change s console o ≡ true) × (changed s o ≡ Ok new)
    × (lines ≡ []) × (why ≡ None)

-- and whenever it does, unless something is in the way or the request is aborted.
abbrev pub AdministersWhereverAllowed : Type 0
AdministersWhereverAllowed =
    (s : State) (moment : ℕ) (name : List ℕ) (o : Operation) (console : ConsoleRow) (next : State) (answer : Answer)
    (new : State)
    → MayAsk s name console → may_change s console o ≡ true → changed s o ≡ Ok next
    → Step s moment (input.Admin name o) answer new
    → IsAborted answer ⊎ ((answer ≡ Done [] None) × (new ≡ next))

-- Of the profiles of a class, exactly those are listed that may be shown, each once, in the order of the state, and
-- nothing changes.
pub record ListsProfiles (s : State) (console : ConsoleRow) (class : Class) (lines : List Line) (new : State) : Type
    0 where
  pub each_once : lines ≡ map profile_line (filter (profile_shown s console) (of_class class s.policy.profiles))
  pub exactly : (line : Line) → Contains lines
      line ↔ ((p : Profile) × (line ≡ profile_line p) × Contains (of_class class s.policy.profiles) p
      × (profile_shown s console p ≡ true))
  pub same : new ≡ s

abbrev pub ListsExactlyProfilesShown : Type 0
ListsExactlyProfilesShown =
    (s : State) (moment : ℕ) (name : List ℕ) (class : Class) (lines : List Line) (why : Option Rule) (new : State)
    → Step s moment (input.ListProfiles name class) (Done lines why) new
    → (console : ConsoleRow) × MayAsk s name console × ListsProfiles s console class lines new

abbrev pub ListsProfilesWhereverAsked : Type 0
ListsProfilesWhereverAsked =
    (s : State) (moment : ℕ) (name : List ℕ) (class : Class) (console : ConsoleRow) (answer : Answer) (new : State)
    → MayAsk s name console → Step s moment (input.ListProfiles name class) answer new
    → IsAborted answer ⊎ ((lines : List Line) × (answer ≡ Done lines None) × ListsProfiles s console class lines new)

-- In that order the more specific comes first, and none comes twice.
abbrev pub MoreSpecificProfilesComeFirst : Type 0
MoreSpecificProfilesComeFirst = (s : State) → IsKeyed s → AreMostSpecificFirst s.policy.profiles

-- The account is listed only if it may be shown,
abbrev pub ListsAccountOnlyWhereShown : Type 0
ListsAccountOnlyWhereShown =
    (s : State) (moment : ℕ) (name : List ℕ) (from count : ℕ) (lines : List Line) (why : Option Rule) (new : State)
    → Step s moment (input.ListAccount name from count) (Done lines why) new
    → (console : ConsoleRow) × MayAsk s name console × (account_shown s console ≡ true)
    × (lines ≡ map account_line (asked_for from count s.account)) × (new ≡ s)

-- and whenever it may, unless the request is aborted.
abbrev pub ListsAccountWhereverShown : Type 0
ListsAccountWhereverShown =
    (s : State) (moment : ℕ) (name : List ℕ) (from count : ℕ) (console : ConsoleRow) (answer : Answer) (new : State)
    → MayAsk s name console → account_shown s console ≡ true
    → Step s moment (input.ListAccount name from count) answer new
    → IsAborted answer ⊎ ((answer ≡ Done (map account_line (asked_for from count s.account)) None) × (new ≡ s))

-- The first line is the requested row, by its number, and each next line the next row; 0 requests the first row, as 1
-- does. There is a line for each row up to the count, and no other.
pub record IsPage (from count : ℕ) (account : List AccountRow) (lines : List Line) : Type 0 where
  pub within : (k : ℕ) (row : AccountRow)
      → k < count → slice_get account (from - 1 + k) ≡ Some row → slice_get lines k ≡ Some
      (account_line (from - 1 + k + 1, row))
  pub past_count : (k : ℕ) → count ≤ k → slice_get lines k ≡ None
  pub past_account : (k : ℕ) → slice_get account (from - 1 + k) ≡ None → slice_get lines k ≡ None

abbrev pub AccountIsPaged : Type 0
AccountIsPaged =
    (s : State) (moment : ℕ) (name : List ℕ) (from count : ℕ) (lines : List Line) (why : Option Rule) (new : State)
    → Step s moment (input.ListAccount name from count) (Done lines why) new
    → IsPage from count s.account lines

-- The batch is stored with these very rows, and nothing changes.
pub record IsKeptAgain (s : State) (batch : ℕ) (rows : List Row) (lines : List Line) (new : State) : Type 0 where
  pub kept : Batch
  pub found : batch_of s.batches batch ≡ Some kept
  pub matches : same_rows kept.rows rows ≡ true
  pub returned : lines ≡ batch_line batch (codes "AGAIN") ∷ []
  pub same : new ≡ s

-- The number is new: all rows are taken, and the batch is stored.
pub record IsTakenWhole (s : State) (batch : ℕ) (rows : List Row) (lines : List Line) (new : State) : Type 0 where
  pub unknown : batch_of s.batches batch ≡ None
  pub next : State
  pub taken : with_rows rows s ≡ Ok next
  pub returned : lines ≡ batch_line batch (codes "KEPT") ∷ []
  pub becomes : new ≡ record next { batches = with_batch (record { number = batch; rows = rows }) next.batches }

-- An import is done only for SPECIAL, and then all of it, or nothing if it was done before.
abbrev pub ImportsOnlyWhereAllowed : Type 0
ImportsOnlyWhereAllowed =
    (s : State) (moment : ℕ) (name : List ℕ) (batch : ℕ) (rows : List Row) (lines : List Line) (why : Option Rule)
    (new : State) → Step s moment (input.Import name batch rows) (Done lines why) new
    → (console : ConsoleRow) × MayAsk s name console × (is_special (acting s console) ≡ true)
    × (IsKeptAgain s batch rows lines new ⊎ IsTakenWhole s batch rows lines new)

-- It is done whenever SPECIAL requests it: with a new number all rows are taken, unless one is refused,
abbrev pub ImportsWhereverAllowed : Type 0
ImportsWhereverAllowed =
    (s : State) (moment : ℕ) (name : List ℕ) (batch : ℕ) (rows : List Row) (console : ConsoleRow) (next : State)
    (answer : Answer) (new : State)
    → MayAsk s name console → is_special (acting s console) ≡ true → batch_of s.batches batch ≡ None
    → with_rows rows s ≡ Ok next → Step s moment (input.Import name batch rows) answer new
    → IsAborted answer ⊎ ((answer ≡ Done (batch_line batch (codes "KEPT") ∷ []) None) × (new ≡ record next {
      batches = with_batch (record {
        number = batch;
        rows = rows;
      }) next.batches;
    }))

-- and with a number that is stored, nothing.
abbrev pub RepeatsWhereverAllowed : Type 0
RepeatsWhereverAllowed =
    (s : State) (moment : ℕ) (name : List ℕ) (batch : ℕ) (rows : List Row) (console : ConsoleRow) (kept : Batch)
    (answer : Answer) (new : State)
    → MayAsk s name console → is_special (acting s console) ≡ true → batch_of s.batches batch ≡ Some kept
    → kept.rows ≡ rows → Step s moment (input.Import name batch rows) answer new
    → IsAborted answer ⊎ ((answer ≡ Done (batch_line batch (codes "AGAIN") ∷ []) None) × (new ≡ s))

-- Two batches are the same if their rows are equal.
abbrev pub SameRowsAreEqual : Type 0
SameRowsAreEqual = (one other : List Row) → (same_rows one other ≡ true) ↔ (one ≡ other)
