-- What a request leaves as it is, for those who read the account.
use Rattle.std.specs.Prelude.{◌≡◌, ◌⊎◌, ℕ, true, List, [], ◌∷◌, ◌++◌, Option, Some, None, Ok, Err, codes}
use Rattle.opc_terms.specs.declared.rule.Rule.{Rule}
use Rattle.opc_terms.specs.declared.rule.Rule.TheVariants as rule
use Rattle.opc_terms.specs.Rules.{rule_text_or_none}
use Rattle.opc_board.specs.declared.event.Event.{Event}
use Rattle.opc_board.specs.declared.fault.BoardFault.{BoardFault}
use Rattle.opc_board.specs.declared.line.Line.{Line}
use Rattle.opc_board.specs.Effect.{event_effect}
use Rattle.opc_board.specs.Outcome.{Done as BoardDone}
use Rattle.opc_board.specs.Texts.{text_or}
use Rattle.opc_state.specs.declared.account.AccountRow.{AccountRow}
use Rattle.opc_state.specs.declared.change.Batch.{Batch}
use Rattle.opc_state.specs.Members.{with_batch}
use Rattle.opc_state.specs.State.{State}
use Rattle.opc_machine.specs.declared.request.Answer.{Answer}
use Rattle.opc_machine.specs.declared.request.Answer.TheVariants.{Done, Refused}
use Rattle.opc_machine.specs.declared.request.Request.{Request}
use Rattle.opc_machine.specs.declared.request.Request.TheVariants as request
use Rattle.opc_machine.specs.Faults.{board_fault}
use Rattle.opc_machine.specs.Imports.{batch_of}
use Rattle.opc_machine.specs.Inputs.{Input, console_of, input_of}
use Rattle.opc_machine.specs.Inputs as input
use Rattle.opc_machine.specs.Machine.{IsAborted, Step, account_row}
use Rattle.opc_machine_laws.specs.TakingLaws.{KeepsMaster}

-- a warning alone let it pass
abbrev pub IsWarned : Option Rule → Type 0
IsWarned (Some (rule.Profile class pattern held needed warned)) = warned ≡ true
IsWarned (Some rule.NoProfile) = ⊥
IsWarned (Some (rule.ConsoleGroup group auth)) = ⊥
IsWarned (Some rule.LogonRequired) = ⊥
IsWarned (Some rule.Revoked) = ⊥
IsWarned None = ⊥

-- The batches after an import: with this one if its number is new, and as they were if it is stored.
pub record IsBatchKept (s : State) (number : ℕ) (batch : Batch) (new : State) : Type 0 where
  pub fresh : batch_of s.batches number ≡ None → new.batches ≡ with_batch batch s.batches
  pub known : (kept : Batch) → batch_of s.batches number ≡ Some kept → new.batches ≡ s.batches

abbrev pub AreBatchesLeft : State → Input → State → Type 0
AreBatchesLeft s (input.Import name number rows) new = IsBatchKept s number (record {
  number = number;
  rows = rows;
}) new
AreBatchesLeft s other new = new.batches ≡ s.batches

-- What is done leaves the account and the batches as they are. Its row is added if and only if a warning alone let it
-- pass, and an import stores its batch.
pub record LeavesRest (s : State) (moment : ℕ) (r : Input) (why : Option Rule) (new : State) : Type 0 where
  pub account : (IsWarned why × (new.account ≡ s.account ++ account_row s moment r (codes "WARN") why ∷ []))
      ⊎ ((IsWarned why → ⊥) × (new.account ≡ s.account))
  pub batches : AreBatchesLeft s r new

abbrev pub WhatIsDoneLeavesRest : Type 0
WhatIsDoneLeavesRest = (s : State) (moment : ℕ) (r : Input) (lines : List Line) (why : Option Rule) (new : State)
    → Step s moment r (Done lines why) new → LeavesRest s moment r why new

-- The machine is asked what the request states, as it was sent.
abbrev pub IsAskedBy : Request → Input → Type 0
IsAskedBy (request.Command console text) r = r ≡ input.Command console text
IsAskedBy (request.Admin console op) r = r ≡ input.Admin console op
IsAskedBy (request.ListProfiles console class) r = r ≡ input.ListProfiles console class
IsAskedBy (request.ListAccount console from count) r = r ≡ input.ListAccount console from count
IsAskedBy (request.Import console batch rows) r = r ≡ input.Import console batch rows
IsAskedBy (request.Event e) r = r ≡ input.Event e

abbrev pub RequestsAreAsked : Type 0
RequestsAreAsked = (sent : Request) → IsAskedBy sent (input_of sent)

-- A request names the console at which it is made, and an event none.
abbrev pub IsNamedIn : Input → Option (List ℕ) → Type 0
IsNamedIn (input.Command name text) console = console ≡ Some name
IsNamedIn (input.Admin name operation) console = console ≡ Some name
IsNamedIn (input.ListProfiles name class) console = console ≡ Some name
IsNamedIn (input.ListAccount name from count) console = console ≡ Some name
IsNamedIn (input.Import name number rows) console = console ≡ Some name
IsNamedIn (input.Event e) console = console ≡ None

abbrev pub RequestsNameTheirConsole : Type 0
RequestsNameTheirConsole = (r : Input) → IsNamedIn r (console_of r)

-- A row of the account has the timestamp, the console or `*`, the outcome and the rule that decided.
pub record SaysWhat (at : ℕ) (r : Input) (what : List ℕ) (why : Option Rule) (row : AccountRow) : Type 0 where
  pub moment : row.moment ≡ at
  pub console : row.console ≡ text_or (codes "*") (console_of r)
  pub code : row.code ≡ what
  pub rule : row.rule ≡ rule_text_or_none why

abbrev pub AccountRowsSay : Type 0
AccountRowsSay = (s : State) (moment : ℕ) (r : Input) (code : List ℕ) (why : Option Rule)
    → SaysWhat moment r code why (account_row s moment r code why)

-- An event changes the board by its effect, and nothing else; no rule decides it.
pub record Happens (s : State) (e : Event) (act : BoardDone) (answer : Answer) (new : State) : Type 0 where
  pub makes : event_effect s.board e ≡ Ok act
  pub answered : answer ≡ Done [] None
  pub becomes : new ≡ record s { board = act.board }

abbrev pub EventsOnlyDoTheirEffect : Type 0
EventsOnlyDoTheirEffect =
    (s : State) (moment : ℕ) (e : Event) (lines : List Line) (why : Option Rule) (new : State)
    → Step s moment (input.Event e) (Done lines why) new
    → (act : BoardDone) × Happens s e act (Done lines why) new

-- It happens whenever the board allows it, unless it is aborted,
abbrev pub EventsHappenWhereverPossible : Type 0
EventsHappenWhereverPossible =
    (s : State) (moment : ℕ) (e : Event) (act : BoardDone) (answer : Answer) (new : State)
    → event_effect s.board e ≡ Ok act → Step s moment (input.Event e) answer new
    → IsAborted answer ⊎ Happens s e act answer new

-- and is otherwise refused by the board's fault.
abbrev pub EventFaultsAreAnswered : Type 0
EventFaultsAreAnswered =
    (s : State) (moment : ℕ) (e : Event) (fault : BoardFault) (answer : Answer) (new : State)
    → event_effect s.board e ≡ Err fault → Step s moment (input.Event e) answer new
    → IsAborted answer ⊎ (answer ≡ Refused (board_fault fault) None)

-- Whatever is requested and whatever happens: if an online console has AUTH MASTER, one has it afterwards.
abbrev pub StepsKeepAMaster : Type 0
StepsKeepAMaster = (s : State) (moment : ℕ) (r : Input) (answer : Answer) (new : State)
    → Step s moment r answer new → KeepsMaster s new
