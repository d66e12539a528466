-- The access machine: one step for each request, of whatever kind.
use Rattle.std.specs.Prelude.{
  ◌≡◌,
  ◌⊎◌,
  ℕ,
  Bool,
  false,
  if◌then◌else◌,
  List,
  [],
  ◌∷◌,
  ◌++◌,
  Option,
  Some,
  None,
  Ok,
  Err,
  codes,
}
use Rattle.std.specs.Option.{option_and_then}
use Rattle.opc_terms.specs.declared.fault.Fault.TheVariants as fault
use Rattle.opc_terms.specs.declared.rule.Rule.{Rule}
use Rattle.opc_terms.specs.declared.rule.Rule.TheVariants as rule
use Rattle.opc_terms.specs.Faults.{fault_code}
use Rattle.opc_terms.specs.Rules.{rule_text_or_none}
use Rattle.opc_board.specs.Invariants.{console_at}
use Rattle.opc_board.specs.Texts.{text_or}
use Rattle.opc_state.specs.declared.account.AccountRow.{AccountRow}
use Rattle.opc_state.specs.State.{State, Fits}
use Rattle.opc_machine.specs.declared.request.Answer.{Answer}
use Rattle.opc_machine.specs.declared.request.Answer.TheVariants.{Done, Refused}
use Rattle.opc_machine.specs.Administration.{admin_outcome}
use Rattle.opc_machine.specs.Commands.{command_outcome, event_outcome}
use Rattle.opc_machine.specs.Imports.{import_outcome}
use Rattle.opc_machine.specs.Inputs.{Input, console_of}
use Rattle.opc_machine.specs.Inputs as input
use Rattle.opc_machine.specs.Listings.{account_outcome, profiles_outcome}
use Rattle.opc_machine.specs.declared.outcome.Refusal.{Refusal}
use Rattle.opc_machine.specs.Outcome.{StateOutcome}
use Rattle.opc_machine.specs.Rulings.{acting_user}

-- the outcome of a request: what it does, or the first refusal that holds
abbrev pub outcome : State → Input → StateOutcome
outcome s (input.Command name text) = command_outcome s name text
outcome s (input.Admin name operation) = admin_outcome s name operation
outcome s (input.ListProfiles name class) = profiles_outcome s name class
outcome s (input.ListAccount name from count) = account_outcome s name from count
outcome s (input.Import name batch rows) = import_outcome s name batch rows
outcome s (input.Event e) = event_outcome s e

abbrev pub refusal_in : StateOutcome → Option Refusal
refusal_in (Ok effect) = None
refusal_in (Err refusal) = Some refusal

abbrev pub first_refusal : State → Input → Option Refusal
first_refusal s r = refusal_in (outcome s r)

-- who acts at the console that a request names
abbrev pub user_acting : State → Input → Option (List ℕ)
user_acting s r = option_and_then (acting_user s) (option_and_then (console_at s.board) (console_of r))

-- a row of the account: of whoever acted at the console before the request
abbrev pub account_row : State → ℕ → Input → List ℕ → Option Rule → AccountRow
account_row s moment r code rule = record {
  moment = moment;
  console = text_or (codes "*") (console_of r);
  user = text_or (codes "-") (user_acting s r);
  code = code;
  rule = rule_text_or_none rule;
}

abbrev pub accounted : AccountRow → State → State
accounted row s = record s { account = s.account ++ row ∷ [] }

abbrev pub is_warned : Option Rule → Bool
is_warned (Some (rule.Profile class pattern held needed warned)) = warned
is_warned (Some rule.NoProfile) = false
is_warned (Some (rule.ConsoleGroup group auth)) = false
is_warned (Some rule.LogonRequired) = false
is_warned (Some rule.Revoked) = false
is_warned None = false

-- The state after a request: a refusal changes nothing but the account, and what a warning alone let pass is
-- accounted too.
abbrev pub after : State → ℕ → Input → StateOutcome → State
after s moment r (Ok effect) =
    if is_warned effect.rule then accounted (account_row s moment r (codes "WARN") effect.rule) effect.state
    else effect.state
after s moment r (Err refusal) = accounted (account_row s moment r (fault_code refusal.fault) refusal.rule) s

abbrev pub answer_of : StateOutcome → Answer
answer_of (Ok effect) = Done effect.lines effect.rule
answer_of (Err refusal) = Refused refusal.fault refusal.rule

-- an answer that may take the place of any other: an allocation or the store failed
abbrev pub IsAborted : Answer → Type 0
IsAborted answer = (answer ≡ Refused fault.NoMemory None) ⊎ (answer ≡ Refused fault.Store None)

-- The request is aborted, and nothing changes.
pub record IsLeft (s : State) (answer : Answer) (new : State) : Type 0 where
  pub aborts : IsAborted answer
  pub same : new ≡ s

-- The store has no number for a row that the request adds, and nothing changes.
pub record IsFull (s : State) (moment : ℕ) (r : Input) (answer : Answer) (new : State) : Type 0 where
  pub full : Fits (after s moment r (outcome s r)) → ⊥
  pub answers : answer ≡ Refused fault.Store None
  pub same : new ≡ s

-- The answer and the state are those of the request's outcome, and its rows have numbers.
pub record IsDone (s : State) (moment : ℕ) (r : Input) (answer : Answer) (new : State) : Type 0 where
  pub answers : answer ≡ answer_of (outcome s r)
  pub becomes : new ≡ after s moment r (outcome s r)
  pub fits : Fits s → Fits new

abbrev pub Step : State → ℕ → Input → Answer → State → Type 0
Step s moment r answer new = IsLeft s answer new ⊎ (IsFull s moment r answer new ⊎ IsDone s moment r answer new)

-- Each request is a step from where the one before it led.
abbrev pub Runs : State → List (ℕ × Input) → List Answer → State → Type 0
Runs s [] [] new = new ≡ s
Runs s (r ∷ requests) (answer ∷ answers) new =
    (next : State) × Step s r.0 r.1 answer next × Runs next requests answers new
Runs s [] (answer ∷ answers) new = ⊥
Runs s (r ∷ requests) [] new = ⊥
