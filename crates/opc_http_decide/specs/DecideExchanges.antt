-- One exchange of `decide`.
use Rattle.std.specs.Prelude.{◌≡◌, ◌⊎◌, ℕ, Bool, false, List, Option, Result, Ok, Err, IfSome}
use Rattle.std.specs.Io.KnownBytes.{Appends}
use Rattle.std.specs.declared.io.Error.{Error}
use Rattle.opc_io.specs.Writes.{AppendsPrefix}
use Rattle.opc_http_requests.specs.declared.origins.Origins.{Origins}
use Rattle.opc_http.specs.declared.exchanging.LinkFault.{LinkFault}
use Rattle.opc_http.specs.declared.exchanging.LinkFault.TheVariants as fault
use Rattle.opc_http.specs.declared.exchanging.Served.{Served}
use Rattle.opc_decide_present.specs.declared.decider.DecidedAnswer.{DecidedAnswer}
use Rattle.opc_decide_present.specs.declared.files.FoundFile.{FoundFile}
use Rattle.opc_decide_present.specs.declared.files.ReadFile.{ReadFile}
use Rattle.opc_decide_present.specs.declared.kind.QuestionKind.{QuestionKind}
use Rattle.opc_decide_present.specs.Present.{IsDecided}
use Rattle.opc_http_questions.specs.Questions.{PutsOnly}
use Rattle.opc_http_questions.specs.declared.question.DecideRequest.{DecideRequest}
use Rattle.opc_http_serve.specs.Logging.{IsLineLogged}
use Rattle.opc_http_decide.specs.DecideLines.{IsToldLine}
use Rattle.opc_http_decide.specs.DecideResponses.{IsResponseTo}
use Rattle.opc_http_decide.specs.declared.point.DecisionPoint.{DecisionPoint}

-- The responses that may be sent, by their status, their bytes and what is told of them. An exchange of which something
-- is told has a line in the log.
module _ {L : Type 0} (may_send : (status : ℕ) → (bytes told : List ℕ) → Type 0)
    (is_logged : (told : List ℕ) → (met gone : Option L) → Type 0) (before after : Option (List ℕ))
    (met gone : Option L) where
  -- One of them was written, whole. Nothing is done by a question that could stay done.
  pub record IsWhole (served : Served) : Type 0 where
    pub bytes : List ℕ
    pub told : List ℕ
    pub may : may_send served.status bytes told
    pub written : Appends before after bytes
    pub handled : served.handled ≡ false
    pub logged : is_logged told met gone

  -- Some first bytes of it were.
  pub record IsCut : Type 0 where
    pub status : ℕ
    pub bytes : List ℕ
    pub told : List ℕ
    pub may : may_send status bytes told
    pub part : AppendsPrefix before after bytes
    pub logged : is_logged told met gone

  -- One was written, or a part of it, or its allocation failed, and nothing was written or logged.
  abbrev pub IsSent : Result Served LinkFault → Type 0
  IsSent (Ok served) = IsWhole served
  IsSent (Err fault.Read) = ⊥
  IsSent (Err (fault.Write handled)) = IsCut × (handled ≡ false)
  IsSent (Err (fault.NoMemory handled)) = (after ≡ before) × (gone ≡ met) × (handled ≡ false)

-- The reader or an allocation failed before a request was known, and nothing was written or logged.
module _ {L : Type 0} (before after : Option (List ℕ)) (met gone : Option L) where
  abbrev pub IsUnanswered : Result Served LinkFault → Type 0
  IsUnanswered (Ok served) = ⊥
  IsUnanswered (Err fault.Read) = (after ≡ before) × (gone ≡ met)
  IsUnanswered (Err (fault.Write handled)) = ⊥
  IsUnanswered (Err (fault.NoMemory handled)) = (after ≡ before) × (gone ≡ met) × (handled ≡ false)

module _ {S D L : Type 0} (held : L → Option (List ℕ)) (has_failed : L → Bool) (origins : Origins)
    (decided : QuestionKind → (body : List ℕ) → DecidedAnswer → Type 0)
    (old : DecisionPoint (S × D) L) (left : Option (List ℕ)) (moment : ℕ) (before after : Option (List ℕ))
    (ended : Result Served LinkFault) (new : DecisionPoint (S × D) L)
  where
    -- The bytes that the reader has left put a request, and its response was sent.
    pub record IsAnsweredOver : Type 0 where
      pub request : DecideRequest
      pub put : IfSome left (λ all. PutsOnly origins all request)
      pub sent : IsSent (IsResponseTo old.base.now decided request)
          (λ told. IsLineLogged held has_failed (IsToldLine moment told)) before after old.log new.log ended

    -- What decides and the URL stay as they are.
    pub record IsDecideExchange : Type 0 where
      pub decider : new.policy.1 ≡ old.policy.1
      pub base : new.base.now ≡ old.base.now
      pub answered : IsAnsweredOver ⊎ IsUnanswered before after old.log new.log ended

-- The same, if questions are decided by the policy file that is there, or by none.
module _ {S F D L : Type 0} (finds : S → Result (FoundFile F) Error → S → Type 0)
    (reads : S → F → Result ReadFile Error → S → Type 0) (refuses : D → (file : List ℕ) → Type 0)
    (answers : D → (file : List ℕ) → QuestionKind → (body : List ℕ) → DecidedAnswer → Type 0)
    (held : L → Option (List ℕ)) (has_failed : L → Bool) (origins : Origins) where
  abbrev pub IsPointExchange : (old : DecisionPoint (S × D) L) → (left : Option (List ℕ)) → (moment : ℕ)
      → (before after : Option (List ℕ)) → Result Served LinkFault → (new : DecisionPoint (S × D) L) → Type 0
  IsPointExchange old left moment before after ended new = IsDecideExchange held has_failed origins
      (IsDecided finds reads refuses answers old.policy.0 old.policy.1) old left moment before after ended new
