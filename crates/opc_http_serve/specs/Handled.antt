-- What clients, served one after another, make of the tables.
use Rattle.std.specs.Prelude.{◌≡◌, ◌≤◌, ◌++◌, ◌∷◌, ℕ, true, false, List, [], Option, Result, Ok, Err, IfErr, IfOk}
use Rattle.std.specs.List.{All}
use Rattle.std.specs.declared.io.Error.{Error}
use Rattle.std.specs.declared.time.Duration.{Duration}
use Rattle.opc_http_connections.specs.Links.{Link}
use Rattle.opc_state.specs.Meaning.{Meaning}
use Rattle.opc_state.specs.State.{State}
use Rattle.opc_machine.specs.declared.request.Request.{Request}
use Rattle.opc_machine.specs.declared.request.Answer.{Answer}
use Rattle.opc_gate.specs.Handling.{IsRun}
use Rattle.opc_http_requests.specs.declared.origins.Origins.{Origins}
use Rattle.opc_http.specs.Exchange.{IsAsked, IsFaulty, IsServed, Reply}
use Rattle.opc_http.specs.Told.{IsWritten}
use Rattle.opc_http.specs.declared.exchanging.LinkFault.{LinkFault}
use Rattle.opc_http.specs.declared.exchanging.LinkFault.TheVariants as fault
use Rattle.opc_http.specs.declared.exchanging.Served.{Served}
use Rattle.opc_http_serve.specs.declared.arrival.ServeFault.{ServeFault}
use Rattle.opc_http_serve.specs.declared.clock.TheConstants.{LAST_MOMENT}
use Rattle.opc_http_serve.specs.Serving.{ServesClients}

-- requests that were handled, each at its timestamp, and their answers
pub record Handled : Type 0 where
  pub requests : List (ℕ × Request)
  pub answers : List Answer

abbrev pub none_handled : Handled
none_handled = record { requests = []; answers = [] }

-- and one more
abbrev pub handled_with : Handled → ℕ → Request → Answer → Handled
handled_with handled moment request answer = record {
  requests = handled.requests ++ (moment, request) ∷ [];
  answers = handled.answers ++ answer ∷ [];
}

-- The reply is the answer to the request, which is the one more that was handled. Or it refuses what is requested, and
-- no more was handled.
abbrev pub IsReplied : Origins → (left : Option (List ℕ)) → (old new : Handled) → ℕ → Reply → Type 0
IsReplied origins left old new moment (Ok answer) =
    (request : Request) × IsAsked origins left (Ok request) × (new ≡ handled_with old moment request answer)
IsReplied origins left old new moment (Err refusal) = IsAsked origins left (Err refusal) × (new ≡ old)

-- A reply was reached, and its response written, or a part of it.
pub record RepliesOnce (origins : Origins) (old : Handled) (left : Option (List ℕ)) (moment : ℕ)
    (before after : Option (List ℕ)) (ended : Result Served LinkFault) (new : Handled) : Type 0 where
  pub reply : Reply
  pub replied : IsReplied origins left old new moment reply
  pub written : IsWritten reply before after ended

-- An exchange, by what was handled in it: a reply was reached; or the reader or an allocation failed, nothing was
-- handled, and nothing was written.
abbrev pub IsConversation : Origins → (old : Handled) → (left : Option (List ℕ)) → ℕ → (before after : Option (List ℕ))
    → Result Served LinkFault → (new : Handled) → Type 0
IsConversation origins old left moment before after (Err fault.Read) new = (after ≡ before) × (new ≡ old)
IsConversation origins old left moment before after (Err (fault.NoMemory false)) new = (after ≡ before) × (new ≡ old)
IsConversation origins old left moment before after (Err (fault.NoMemory true)) new =
    RepliesOnce origins old left moment before after (Err (fault.NoMemory true)) new
IsConversation origins old left moment before after (Err (fault.Write handled)) new =
    RepliesOnce origins old left moment before after (Err (fault.Write handled)) new
IsConversation origins old left moment before after (Ok served) new =
    RepliesOnce origins old left moment before after (Ok served) new

module _ {T : Type 0} (m : Meaning T) where
  -- What was handled is a run of the machine, at valid timestamps. If nothing was, nothing changed.
  pub record IsRunOf (old new : T) (handled : Handled) : Type 0 where
    pub moments : All (λ (r : ℕ × Request). r.0 ≤ LAST_MOMENT) handled.requests
    pub run : m.is_sure new → (s : State) → m.represents old s
        → IsRun m old new s handled.requests handled.answers
    pub idle : handled.requests ≡ [] → new ≡ old

module _ (origins : Origins) {T : Type 0} (m : Meaning T) where
  -- An exchange over tables: what was left of the reader's bytes was requested and handled, and what the writer holds
  -- in addition is the reply, or a part of it.
  pub record IsExchange (old : T) (left : Option (List ℕ)) (moment : ℕ) (before after : Option (List ℕ))
      (ended : Result Served LinkFault) (new : T) : Type 0 where
    pub served : IfOk ended (IsServed origins m (λ held. held) left before after old new moment)
    pub fault : IfErr ended (IsFaulty origins m (λ held. held) left before after old new moment)
    pub sure : m.is_sure new → m.is_sure old

  module _ {C K : Type 0} (link : Link C K) (comes : Result (Option (C × C)) Error → Type 0)
      (timeout : Option Duration) where
    -- What this many connections make of the tables. Each client had one exchange, over its connection and at its
    -- timestamp, for this long by some clock; or fewer had, and then none could be accepted. The requests that were
    -- handled are those that they asked for, their answers are those of the replies, and both are a run of the machine.
    pub record AreHandled {A : Type 0} (old new : T) (count : ℕ) (end : Result A ServeFault) : Type 0 where
      pub handled : Handled
      pub timer : K
      pub served : ServesClients link origins (IsConversation origins) comes timer timeout none_handled count end
          handled
      pub run : IsRunOf m old new handled
