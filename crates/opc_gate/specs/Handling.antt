-- One request handled over tables, and a run of requests.
use Rattle.std.specs.Prelude.{◌≡◌, ◌⊎◌, Bool, true, List, ◌∷◌, ◌++◌, length, take, ℕ}
use Rattle.std.specs.List.{All}
use Rattle.opc_state.specs.declared.change.Change.{Change}
use Rattle.opc_state.specs.Meaning.{Meaning}
use Rattle.opc_state.specs.State.{State}
use Rattle.opc_state.specs.Changes.{changed_by, is_nothing}
use Rattle.opc_machine.specs.declared.outcome.Outcome.{Outcome}
use Rattle.opc_machine.specs.declared.outcome.Outcome.TheVariants.{Done, Refused}
use Rattle.opc_machine.specs.declared.request.Request.{Request}
use Rattle.opc_machine.specs.declared.request.Answer.{Answer}
use Rattle.opc_machine.specs.Inputs.{Input, input_of, inputs_of}
use Rattle.opc_machine.specs.Machine.{outcome, after, answer_of, is_warned, Step, Runs, IsAborted}

-- whether the account gets a row for the outcome of a request: for a refusal, and for what a warning alone let pass
abbrev pub is_accounted : Outcome → Bool
is_accounted (Done effect) = is_warned effect.rule
is_accounted (Refused refusal) = true

-- the answer and the change are those of the machine
pub record IsDecision (s : State) (moment : ℕ) (r : Input) (answer : Answer) (change : Change) : Type 0 where
  pub answers : answer ≡ answer_of (outcome s r)
  pub becomes : changed_by change s ≡ after s moment r (outcome s r)

-- There is nothing to write if the state stays as it is.
abbrev pub IsNothingWhereSame : State → Change → Type 0
IsNothingWhereSame s change = changed_by change s ≡ s → is_nothing change ≡ true

-- a crash leaves nothing but what it might have left before
abbrev pub LeavesAsBefore : {T : Type 0} → Meaning T → T → T → Type 0
LeavesAsBefore m old new = (left : State) → m.may_leave new left → m.may_leave old left

-- a crash can leave only this state
abbrev pub LeavesAlone : {T : Type 0} → Meaning T → T → State → Type 0
LeavesAlone m new s = (left : State) → m.may_leave new left → left ≡ s

-- A change is acknowledged: a crash can leave only the new state, or nothing was changed.
abbrev pub IsAcknowledged : {T : Type 0} → Meaning T → T → T → State → State → Type 0
IsAcknowledged m old new s next =
    LeavesAlone m new next ⊎ ((next ≡ s) × LeavesAsBefore m old new)

-- the answer is that of the machine, and does not report that the request was aborted
abbrev pub IsAnswered : Answer → Type 0
IsAnswered answer = IsAborted answer → ⊥

-- One request, handled: a step of the machine, and what a crash may leave then.
pub record IsHandled {T : Type 0} (m : Meaning T) (old new : T) (s : State) (moment : ℕ)
    (r : Input) (answer : Answer) : Type 0 where
  pub next : State
  pub step : Step s moment r answer next
  pub represented : m.represents new next
  -- what it might have left before, or the state after the request, as a whole
  pub crash : (left : State) → m.may_leave new left → m.may_leave old left ⊎ (left ≡ after s moment r (outcome s r))
  -- if the request leaves the state as it is, nothing but what it might have left before
  pub idle : after s moment r (outcome s r) ≡ s → LeavesAsBefore m old new
  -- and once it is answered, only the state after the request, or nothing was changed
  pub acknowledged : IsAnswered answer → IsAcknowledged m old new s next

-- The state is one that a request makes, as a whole, of the one that the requests before it led to.
pub record IsMadeByOne (s : State) (requests : List (ℕ × Request)) (answers : List Answer) (made : State) : Type 0 where
  pub before : List (ℕ × Request)
  pub request : ℕ × Request
  pub later : List (ℕ × Request)
  pub are : requests ≡ before ++ request ∷ later
  pub met : State
  pub runs : Runs s (inputs_of before) (take (length before) answers) met
  pub makes : made ≡ after met request.0 (input_of request.1) (outcome met (input_of request.1))

-- The answers are those of a run of the machine, whose last state is represented, and what a crash may leave then.
pub record IsRun {T : Type 0} (m : Meaning T) (old new : T) (s : State)
    (requests : List (ℕ × Request)) (answers : List Answer) : Type 0 where
  pub last : State
  pub runs : Runs s (inputs_of requests) answers last
  pub represented : m.represents new last
  -- what it might have left before, or a state that one of the requests makes, as a whole
  pub crash : (left : State) → m.may_leave new left → m.may_leave old left ⊎ IsMadeByOne s requests answers left
  -- and once all are answered, only the last state, or nothing was changed
  pub acknowledged : All IsAnswered answers → IsAcknowledged m old new s last
