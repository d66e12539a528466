-- The log of a run: a line is added to it for each request, in their order.
use Rattle.std.specs.Prelude.{
  ◌≡◌,
  ◌⊎◌,
  ℕ,
  List,
  [],
  ◌∷◌,
  Option,
  Some,
  None,
  Result,
  IfOk,
  MatchOption,
  if◌then◌else◌,
  length,
  map,
}
use Rattle.std.specs.Io.KnownBytes.{Appends}
use Rattle.opc_terms.specs.declared.store_fault.StoreFault.{StoreFault}
use Rattle.opc_state.specs.Meaning.{Meaning}
use Rattle.opc_state.specs.State.{State}
use Rattle.opc_machine.specs.Inputs.{input_of}
use Rattle.opc_machine.specs.Machine.{Step, user_acting}
use Rattle.opc_machine.specs.declared.request.Answer.{Answer}
use Rattle.opc_machine.specs.declared.request.Request.{Request}
use Rattle.opc_gate.specs.Handling.{IsHandled}
use Rattle.opc_http.specs.Told.{has_row}
use Rattle.opc_cli_script.specs.Running.{AppendsPrefix}
use Rattle.opc_cli_log.specs.RunLines.{IsRunLine, LoggedRequest, logged}
use Rattle.opc_cli_log.specs.declared.gate.LoggedGate.{LoggedGate}
use Rattle.opc_cli_log.specs.declared.log.RunLog.{RunLog}

-- the line of a request was written
abbrev pub IsLineWhole : LoggedRequest → (before after : Option (List ℕ)) → Type 0
IsLineWhole entry before after = (line : List ℕ) × IsRunLine entry line × Appends before after line

-- or it could not be allocated, or only a prefix of it was written
abbrev pub IsLineCut : LoggedRequest → (before after : Option (List ℕ)) → Type 0
IsLineCut entry before after = (after ≡ before)
    ⊎ ((line : List ℕ) × IsRunLine entry line × AppendsPrefix before after line)

module _ {W : Type 0} (contents : W → Option (List ℕ)) where
  -- The line of a request was added to a log, or that failed. If one failed before, nothing is added.
  abbrev pub IsAdded : LoggedRequest → (old new : RunLog W) → Type 0
  IsAdded entry old new =
      MatchOption old.fault (MatchOption new.fault
      (IsLineWhole entry (contents old.output.inner) (contents new.output.inner))
      (λ error. IsLineCut entry (contents old.output.inner) (contents new.output.inner)))
      (λ error. new ≡ old)

  -- and those of more, one after another
  abbrev pub AreAdded : (old new : RunLog W) → List LoggedRequest → Type 0
  AreAdded old new [] = new ≡ old
  AreAdded old new (entry ∷ more) = (next : RunLog W) × IsAdded entry old next × AreAdded next new more

-- If they were loaded, the user is the one who acted before the request, and the number is that of the last row after
-- it, if the request got a row.
pub record IsKnownAt (s next : State) (entry : LoggedRequest) : Type 0 where
  pub acts : IfOk entry.user (λ user. user ≡ user_acting s (input_of entry.request))
  pub numbered : IfOk entry.row (λ row. row ≡ (if has_row entry.answer then Some (length next.account) else None))

-- The requests are steps of the machine from a state on, and what is logged of each is known of its states.
abbrev pub AreKnown : State → List LoggedRequest → Type 0
AreKnown s [] = Unit {0}
AreKnown s (entry ∷ more) =
    (next : State) × Step s entry.moment (input_of entry.request) entry.answer next × IsKnownAt s next entry
    × AreKnown next more

abbrev pub request_in : LoggedRequest → ℕ × Request
request_in entry = (entry.moment, entry.request)

abbrev pub answer_in : LoggedRequest → Answer
answer_in entry = entry.answer

module _ {T : Type 0} (m : Meaning T) {W : Type 0} (contents : W → Option (List ℕ)) where
  -- A log got the lines of requests that were handled over tables: their times, users, answers and rows.
  pub record IsLogOf (log last : RunLog W) (old new : T) (requests : List (ℕ × Request)) (answers : List Answer)
      : Type 0 where
    pub entries : List LoggedRequest
    pub asked : map request_in entries ≡ requests
    pub answered : map answer_in entries ≡ answers
    pub added : AreAdded contents log last entries
    pub known : m.is_sure new → (s : State) → m.represents old s → AreKnown s entries

-- A gate with a log represents what the gate does.
abbrev pub logged_meaning : {T W : Type 0} → Meaning T → Meaning (LoggedGate T W)
logged_meaning m = record {
  represents = λ x s. m.represents x.gate s;
  is_sure = λ x. m.is_sure x.gate;
  may_leave = λ x s. m.may_leave x.gate s;
}

-- A request was handled, and its user and row were loaded for the log.
pub record IsAccountedHandling {T : Type 0} (m : Meaning T) (old new : T) (s : State) (entry : LoggedRequest) : Type 0
  where
    pub handled : IsHandled m old new s entry.moment (input_of entry.request) entry.answer
    pub known : IsKnownAt s handled.next entry

-- A gate with a log handled a request, and its line was added.
pub record IsLoggedRequest {T : Type 0} (m : Meaning T) {W : Type 0} (contents : W → Option (List ℕ))
    (old : LoggedGate T W) (moment : ℕ) (request : Request) (answer : Answer) (new : LoggedGate T W) : Type 0 where
  pub user : Result (Option (List ℕ)) StoreFault
  pub row : Result (Option ℕ) StoreFault
  pub sure : m.is_sure new.gate → m.is_sure old.gate
  pub handled : m.is_sure new.gate → (s : State) → m.represents old.gate s
      → IsAccountedHandling m old.gate new.gate s (logged moment request user answer row)
  pub added : IsAdded contents (logged moment request user answer row) old.log new.log
