-- The response to a request, by what it puts.
use Rattle.std.proofs.Common.{◌≡◌, ℕ, List, Result, Ok, Err, subst, sym}
use Rattle.std.specs.Prelude.{IfOk}
use Rattle.std.proofs.lemmas.Result.{IfOk-weaker}
use Rattle.opc_http_requests.specs.declared.refusal.HttpRefusal.{HttpRefusal}
use Rattle.opc_http_responses.specs.Responses.{refusal_response_with, response_text}
use Rattle.opc_http_responses.specs.Statuses.{refusal_status}
use Rattle.opc_decide_present.specs.declared.decider.DecidedAnswer.{DecidedAnswer}
use Rattle.opc_decide_present.specs.declared.kind.QuestionKind.{QuestionKind}
use Rattle.opc_http_questions.specs.Asked.{Asked}
use Rattle.opc_http_questions.specs.declared.question.DecideRequest.{DecideRequest}
use Rattle.opc_http_decide.specs.DecideLines.{refusal_told}
use Rattle.opc_http_decide.specs.DecideResponses.{IsAnswerAt, IsResponseFor, IsResponseTo, id_field}
use Rattle.opc_http_decide.specs.declared.response.ToldResponse.{ToldResponse}

module _ {E : Type 0} (base : List ℕ) (decided : QuestionKind → (body : List ℕ) → DecidedAnswer → Type 0) (request : DecideRequest)
    (fields : List ℕ) (same : fields ≡ id_field request.id) (result : Result ToldResponse E) where
  by_question : (question : Result Asked HttpRefusal) → request.question ≡ question
      → IfOk result (λ made. IsResponseFor base decided question fields made.response.status made.response.bytes.items made.told)
      → IfOk result (λ made. IsResponseTo base decided request made.response.status made.response.bytes.items made.told)
  by_question question is made = subst (λ (q : Result Asked HttpRefusal). IfOk result
      (λ made. IsResponseFor base decided q (id_field request.id) made.response.status made.response.bytes.items made.told)) (sym is)
      (subst (λ (text : List ℕ). IfOk result
      (λ made. IsResponseFor base decided question text made.response.status made.response.bytes.items made.told)) same made)

  -- to a question that was answered
  pub to_question : (asked : Asked) (decision : DecidedAnswer) → request.question ≡ Ok asked
      → IsAnswerAt base decided asked.route asked.body decision
      → IfOk result (λ made. (made.response.status ≡ decision.status)
      × (made.response.bytes.items ≡ response_text decision.status fields decision.body) × (made.told ≡ decision.told))
      → IfOk result (λ made. IsResponseTo base decided request made.response.status made.response.bytes.items made.told)
  to_question asked decision is by made = by_question (Ok asked) is (IfOk-weaker result
      (λ made. (made.response.status ≡ decision.status)
      × (made.response.bytes.items ≡ response_text decision.status fields decision.body) × (made.told ≡ decision.told))
      (λ made. IsResponseFor base decided (Ok asked) fields made.response.status made.response.bytes.items made.told)
      (λ made has. (decision, by, has.0, has.1, has.2)) made)

  -- to what is none
  pub to_refusal : (refusal : HttpRefusal) → request.question ≡ Err refusal
      → IfOk result (λ made. (made.response.status ≡ refusal_status refusal)
      × (made.response.bytes.items ≡ refusal_response_with refusal fields) × (made.told ≡ refusal_told refusal))
      → IfOk result (λ made. IsResponseTo base decided request made.response.status made.response.bytes.items made.told)
  to_refusal refusal is made = by_question (Err refusal) is made
