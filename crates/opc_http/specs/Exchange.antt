-- One exchange: what some bytes ask for, the reply to it, and what happens to the tables.
use Rattle.std.specs.Prelude.{◌≡◌, ℕ, Bool, true, false, List, Option, Result, Ok, Err, IfSome, is_ok}
use Rattle.std.specs.Io.KnownBytes.{Appends}
use Rattle.opc_io.specs.Writes.{AppendsPrefix}
use Rattle.opc_http_requests.specs.declared.origins.Origins.{Origins}
use Rattle.opc_http_requests.specs.declared.refusal.HttpRefusal.{HttpRefusal}
use Rattle.opc_http_requests.specs.Asked.{AsksOnly}
use Rattle.opc_http_responses.specs.Responses.{refusal_response, response_of}
use Rattle.opc_http_responses.specs.Statuses.{refusal_status, status_of}
use Rattle.opc_state.specs.Meaning.{Meaning}
use Rattle.opc_state.specs.State.{State}
use Rattle.opc_machine.specs.declared.request.Request.{Request}
use Rattle.opc_machine.specs.declared.request.Answer.{Answer}
use Rattle.opc_machine.specs.Inputs.{input_of}
use Rattle.opc_gate.specs.Handling.{IsHandled}
use Rattle.opc_http.specs.declared.exchanging.LinkFault.{LinkFault}
use Rattle.opc_http.specs.declared.exchanging.LinkFault.TheVariants as fault
use Rattle.opc_http.specs.declared.exchanging.Served.{Served}

-- the reply: the answer to a request, or the refusal of what is not one
abbrev pub Reply : Type 0
Reply = Result Answer HttpRefusal

-- the bytes of its response
abbrev pub reply_bytes : Reply → List ℕ
reply_bytes (Ok answer) = response_of answer
reply_bytes (Err refusal) = refusal_response refusal

abbrev pub reply_status : Reply → ℕ
reply_status (Ok answer) = status_of answer
reply_status (Err refusal) = refusal_status refusal

-- the reader failed
abbrev pub is_read : Result Served LinkFault → Bool
is_read (Ok served) = false
is_read (Err fault.Read) = true
is_read (Err (fault.Write handled)) = false
is_read (Err (fault.NoMemory handled)) = false

-- the writer failed
abbrev pub is_write : Result Served LinkFault → Bool
is_write (Ok served) = false
is_write (Err fault.Read) = false
is_write (Err (fault.Write handled)) = true
is_write (Err (fault.NoMemory handled)) = false

-- the bytes that the reader has left, if they are known, ask for this, and for nothing else, if requests are accepted
-- from there
abbrev pub IsAsked : Origins → Option (List ℕ) → Result Request HttpRefusal → Type 0
IsAsked origins left asked = IfSome left (λ all. AsksOnly origins all asked)

module _ {K : Type 0} (held : K → Option (List ℕ)) where
  -- The response was written, whole, and this is answered.
  pub record IsReplyWritten (reply : Reply) (before after : K) (served : Served) : Type 0 where
    pub written : Appends (held before) (held after) (reply_bytes reply)
    pub status : served.status ≡ reply_status reply
    pub handled : served.handled ≡ is_ok reply

  -- No more than some first bytes of the response were written, and nothing if its allocation failed.
  abbrev pub IsCutOff : Reply → K → K → LinkFault → Type 0
  IsCutOff reply before after fault.Read = ⊥
  IsCutOff reply before after (fault.Write handled) =
      AppendsPrefix (held before) (held after) (reply_bytes reply) × (handled ≡ is_ok reply)
  IsCutOff reply before after (fault.NoMemory handled) = (after ≡ before) × (handled ≡ is_ok reply)

module _ (origins : Origins) {T : Type 0} (m : Meaning T) where
  -- The request was handled once, with this answer: a step of the access machine. What a crash may leave depends on
  -- that answer.
  pub record IsOneStep (left : Option (List ℕ)) (old new : T) (moment : ℕ) (answer : Answer) : Type 0 where
    pub request : Request
    pub asked : IsAsked origins left (Ok request)
    pub handled : m.is_sure new → (s : State) → m.represents old s
        → IsHandled m old new s moment (input_of request) answer

  -- The reply is the one to what is requested. If that is not a request, the tables are as they were.
  abbrev pub Replies : Option (List ℕ) → T → T → ℕ → Reply → Type 0
  Replies left old new moment (Ok answer) = IsOneStep left old new moment answer
  Replies left old new moment (Err refusal) = IsAsked origins left (Err refusal) × (new ≡ old)

  module _ {K : Type 0} (held : K → Option (List ℕ)) where
    -- The reply to what is requested was written, whole.
    pub record IsServed (left : Option (List ℕ)) (before after : K) (old new : T) (moment : ℕ) (served : Served) : Type
        0 where
      pub reply : Reply
      pub replies : Replies left old new moment reply
      pub reported : IsReplyWritten held reply before after served

    -- The reply to what is requested was not written, or not whole.
    pub record IsUnserved (left : Option (List ℕ)) (before after : K) (old new : T) (moment : ℕ)
        (fault : LinkFault) : Type 0 where
      pub reply : Reply
      pub replies : Replies left old new moment reply
      pub cut_off : IsCutOff held reply before after fault

    -- What a fault leaves: if nothing was read whole, or an allocation failed and no request was handled, all is as it
    -- was.
    abbrev pub IsFaulty : Option (List ℕ) → K → K → T → T → ℕ → LinkFault → Type 0
    IsFaulty left before after old new moment fault.Read = (after ≡ before) × (new ≡ old)
    IsFaulty left before after old new moment (fault.NoMemory false) = (after ≡ before) × (new ≡ old)
    IsFaulty left before after old new moment (fault.NoMemory true) =
        IsUnserved left before after old new moment (fault.NoMemory true)
    IsFaulty left before after old new moment (fault.Write handled) =
        IsUnserved left before after old new moment (fault.Write handled)
