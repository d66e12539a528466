-- The log entry of an exchange: what was requested, for whom its console acted, the reply, and its row of the account.
use Rattle.std.specs.Prelude.{◌≡◌, ◌++◌, ◌∷◌, ⊤, ℕ, Bool, true, false, List, [], Option, Some, None, Result, Ok, Err}
use Rattle.std.specs.Prelude.{IfOk, codes, length}
use Rattle.opc_terms.specs.Faults.{fault_code}
use Rattle.opc_terms.specs.declared.fault.Fault.{Fault}
use Rattle.opc_terms.specs.declared.fault.Fault.TheVariants as why
use Rattle.opc_terms.specs.declared.rule.Rule.{Rule}
use Rattle.opc_terms.specs.declared.store_fault.StoreFault.{StoreFault}
use Rattle.opc_state.specs.Meaning.{Meaning}
use Rattle.opc_state.specs.State.{State}
use Rattle.opc_state.specs.declared.account.AccountRow.{AccountRow}
use Rattle.opc_machine.specs.declared.request.Answer.{Answer}
use Rattle.opc_machine.specs.declared.request.Answer.TheVariants.{Done, Refused}
use Rattle.opc_machine.specs.declared.request.Request.{Request}
use Rattle.opc_machine.specs.Inputs.{Input, input_of}
use Rattle.opc_machine.specs.Machine.{account_row, is_warned, user_acting}
use Rattle.opc_gate.specs.Handling.{IsHandled}
use Rattle.opc_http_requests.specs.declared.origins.Origins.{Origins}
use Rattle.opc_http_requests.specs.declared.refusal.HttpRefusal.{HttpRefusal}
use Rattle.opc_http_log.specs.declared.entry.LogEntry.{LogEntry}
use Rattle.opc_http.specs.Exchange.{IsAsked, IsCutOff, IsReplyWritten, Reply}
use Rattle.opc_http.specs.declared.exchanging.LinkFault.{LinkFault}
use Rattle.opc_http.specs.declared.exchanging.LinkFault.TheVariants as fault
use Rattle.opc_http.specs.declared.exchanging.Served.{Served}

-- the status of a response that was written whole
abbrev pub status_in : Result Served LinkFault → Option ℕ
status_in (Ok served) = Some served.status
status_in (Err fault) = None

-- nothing was read
abbrev pub IsUnread : Result Served LinkFault → Type 0
IsUnread (Ok served) = ⊥
IsUnread (Err fault.Read) = ⊤
IsUnread (Err (fault.Write handled)) = ⊥
IsUnread (Err (fault.NoMemory handled)) = handled ≡ false

-- What was written is the response of this reply, or a part of it.
abbrev pub IsWritten : Reply → (before after : Option (List ℕ)) → Result Served LinkFault → Type 0
IsWritten reply before after (Ok served) = IsReplyWritten (λ held. held) reply before after served
IsWritten reply before after (Err fault) = IsCutOff (λ held. held) reply before after fault

-- a fault that does not stand for an aborted request
abbrev pub is_refusal : Fault → Bool
is_refusal why.NoMemory = false
is_refusal why.Store = false
is_refusal fault = true

-- whether the account gets a row for an answer: for a refusal, and for what only a warning let pass
abbrev pub has_row : Answer → Bool
has_row (Done lines rule) = is_warned rule
has_row (Refused fault rule) = is_refusal fault

-- the code and the rule of that row
abbrev pub row_code : Answer → List ℕ
row_code (Done lines rule) = codes "WARN"
row_code (Refused fault rule) = fault_code fault

abbrev pub row_rule : Answer → Option Rule
row_rule (Done lines rule) = rule
row_rule (Refused fault rule) = rule

-- The number is that of the last row of the account, which is the row of this answer.
pub record IsLastRow (next s : State) (moment : ℕ) (r : Input) (answer : Answer) (number : ℕ) : Type 0 where
  pub rows : List AccountRow
  pub account : next.account ≡ rows ++ account_row s moment r (row_code answer) (row_rule answer) ∷ []
  pub last : number ≡ length next.account

-- An answer that adds no row has no number. Any other has that of its row, in the state that the tables represent then.
abbrev pub IsNumbered : {T : Type 0} → Meaning T → (new : T) → State → ℕ → Input → Answer → Option ℕ → Type 0
IsNumbered m new s moment r answer None = has_row answer ≡ false
IsNumbered m new s moment r answer (Some number) =
    (next : State) × m.represents new next × IsLastRow next s moment r answer number

module _ (origins : Origins) {T : Type 0} (m : Meaning T) (left : Option (List ℕ)) (old new : T) (moment : ℕ)
    (before after : Option (List ℕ)) (ended : Result Served LinkFault) (user : Result (Option (List ℕ)) StoreFault)
    (row : Result (Option ℕ) StoreFault)
  where
    -- This is what was requested, and it was handled once, with the answer that was written. The user is the one who
    -- acted before it, and the number is that of the row that it added to the account.
    pub record IsAnswerTold (request : Request) (answer : Answer) : Type 0 where
      pub asked : IsAsked origins left (Ok request)
      pub handled : m.is_sure new → (s : State) → m.represents old s
          → IsHandled m old new s moment (input_of request) answer
      pub acts : m.is_sure new → (s : State) → m.represents old s
          → IfOk user (λ u. u ≡ user_acting s (input_of request))
      pub numbered : m.is_sure new → (s : State) → m.represents old s
          → IfOk row (IsNumbered m new s moment (input_of request) answer)
      pub written : IsWritten (Ok answer) before after ended

    -- This is not a request, nothing was done, and this refusal was written.
    pub record IsRefusalTold (refusal : HttpRefusal) : Type 0 where
      pub asked : IsAsked origins left (Err refusal)
      pub same : new ≡ old
      pub nobody : user ≡ Ok None
      pub rowless : row ≡ Ok None
      pub written : IsWritten (Err refusal) before after ended

    -- Nothing was read, done or written.
    pub record IsNothingTold : Type 0 where
      pub unread : IsUnread ended
      pub same : new ≡ old
      pub nobody : user ≡ Ok None
      pub rowless : row ≡ Ok None
      pub unwritten : after ≡ before

    -- A request is logged with its answer, a refusal without a request, and nothing if nothing was read.
    abbrev pub IsTold : Option Request → Option Reply → Type 0
    IsTold (Some request) (Some (Ok answer)) = IsAnswerTold request answer
    IsTold (Some request) (Some (Err refusal)) = ⊥
    IsTold (Some request) None = ⊥
    IsTold None (Some (Ok answer)) = ⊥
    IsTold None (Some (Err refusal)) = IsRefusalTold refusal
    IsTold None None = IsNothingTold

-- The entry is that of the exchange, with its timestamp, with the status of the response that was written.
pub record IsEntry (origins : Origins) {T : Type 0} (m : Meaning T) (left : Option (List ℕ)) (old new : T)
    (moment : ℕ) (before after : Option (List ℕ)) (ended : Result Served LinkFault) (entry : LogEntry) : Type 0 where
  pub at : entry.moment ≡ moment
  pub status : entry.status ≡ status_in ended
  pub told : IsTold origins m left old new moment before after ended entry.user entry.row entry.request entry.reply
