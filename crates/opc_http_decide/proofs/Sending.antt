-- A response that is sent, and the exchange that it makes.
use Rattle.std.proofs.Common.{◌≡◌, ℕ, List, Option, Result, Ok, Err, inl, inr, refl, subst, sym}
use Rattle.std.specs.Prelude.{Bool, IfErr, IfOk, IfSome, OnErr, OnOk, false}
use Rattle.std.specs.Io.KnownBytes.{Appends}
use Rattle.opc_io.specs.Writes.{AppendsPrefix}
use Rattle.opc_http_requests.specs.declared.origins.Origins.{Origins}
use Rattle.opc_http.specs.declared.exchanging.LinkFault.{LinkFault}
use Rattle.opc_http.specs.declared.exchanging.LinkFault.TheVariants as fault
use Rattle.opc_http.specs.declared.exchanging.Served.{Served}
use Rattle.opc_decide_present.specs.declared.decider.DecidedAnswer.{DecidedAnswer}
use Rattle.opc_decide_present.specs.declared.kind.QuestionKind.{QuestionKind}
use Rattle.opc_http_serve.specs.Logging.{IsLineLogged}
use Rattle.opc_http_questions.specs.Questions.{PutsOnly}
use Rattle.opc_http_questions.specs.declared.question.DecideRequest.{DecideRequest}
use Rattle.opc_http_decide.specs.DecideLines.{IsToldLine}
use Rattle.opc_http_decide.specs.DecideResponses.{IsResponseTo}
use Rattle.opc_http_decide.specs.DecideExchanges.{IsDecideExchange, IsSent, IsUnanswered}
use Rattle.opc_http_decide.specs.declared.point.DecisionPoint.{DecisionPoint}

-- It is written, whole or not, and then logged.
pub sent_by : {L : Type 0} (may_send : (status : ℕ) → (bytes told : List ℕ) → Type 0)
    (is_logged : (told : List ℕ) → (met gone : Option L) → Type 0) (before after : Option (List ℕ)) (old met gone : Option L)
    (served : Result Served LinkFault) (status : ℕ) (bytes told : List ℕ) → may_send status bytes told → met ≡ old
    → is_logged told met gone
    → IfOk served (λ served. (served.status ≡ status) × (served.handled ≡ false))
    → OnOk served (Appends before after bytes)
    → IfErr served (λ f. f ≡ fault.Write false)
    → OnErr served (AppendsPrefix before after bytes)
    → IsSent may_send is_logged before after old gone served
sent_by may_send is_logged before after old met gone (Ok served) status bytes told may left logged is whole none part = record {
  bytes = bytes;
  told = told;
  may = subst (λ n. may_send n bytes told) (sym is.0) may;
  written = whole;
  handled = is.1;
  logged = subst (λ log. is_logged told log gone) left logged;
}
sent_by may_send is_logged before after old met gone (Err f) status bytes told may left logged none whole is part =
    subst (λ (f : LinkFault). IsSent may_send is_logged before after old gone (Err f)) (sym is) (
      record {
        status = status;
        bytes = bytes;
        told = told;
        may = may;
        part = part;
        logged = subst (λ log. is_logged told log gone) left logged;
      },
      refl,
    )

module _ {S D L : Type 0} (held : L → Option (List ℕ)) (has_failed : L → Bool) (origins : Origins)
    (decided : QuestionKind → (body : List ℕ) → DecidedAnswer → Type 0) (old : DecisionPoint (S × D) L) (left : Option (List ℕ)) (moment : ℕ)
    (before after : Option (List ℕ)) (ended : Result Served LinkFault) (new : DecisionPoint (S × D) L)
  where
    pub answered : (request : DecideRequest) → IfSome left (λ all. PutsOnly origins all request) → new.policy.1 ≡ old.policy.1
        → new.base.now ≡ old.base.now
        → IsSent (IsResponseTo old.base.now decided request) (λ told. IsLineLogged held has_failed (IsToldLine moment told)) before after
        old.log new.log ended
        → IsDecideExchange held has_failed origins decided old left moment before after ended new
    answered request put decider base sent = record {
      decider = decider;
      base = base;
      answered = inl (record { request = request; put = put; sent = sent });
    }

    pub unanswered : new.policy.1 ≡ old.policy.1 → new.base.now ≡ old.base.now → IsUnanswered before after old.log new.log ended
        → IsDecideExchange held has_failed origins decided old left moment before after ended new
    unanswered decider base none = record { decider = decider; base = base; answered = inr none }
