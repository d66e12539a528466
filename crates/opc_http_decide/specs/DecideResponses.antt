-- The response to a request to `decide`, and what a log tells of it.
use Rattle.std.specs.Prelude.{◌≡◌, ℕ, List, [], ◌++◌, codes, Option, Some, None, Result, Ok, Err}
use Rattle.serde_json.specs.Written.{compact_text}
use Rattle.opc_http_requests.specs.declared.refusal.HttpRefusal.{HttpRefusal}
use Rattle.opc_http_responses.specs.Responses.{line, refusal_response_with, response_text}
use Rattle.opc_http_responses.specs.Statuses.{refusal_status}
use Rattle.opc_decide_present.specs.declared.decider.DecidedAnswer.{DecidedAnswer}
use Rattle.opc_decide_present.specs.declared.kind.QuestionKind.{QuestionKind}
use Rattle.opc_http_questions.specs.Asked.{Asked}
use Rattle.opc_http_questions.specs.declared.question.DecideRequest.{DecideRequest}
use Rattle.opc_http_questions.specs.declared.routes.DecideRoute.{DecideRoute}
use Rattle.opc_http_questions.specs.declared.routes.DecideRoute.TheVariants.{Ask, Configuration}
use Rattle.opc_http_decide.specs.Configurations.{configuration}
use Rattle.opc_http_decide.specs.DecideLines.{configuration_told, refusal_told}

-- the field that repeats the id of a request, if it has one
abbrev pub id_field : Option (List ℕ) → List ℕ
id_field None = []
id_field (Some id) = line (codes "X-Request-ID: " ++ id)

-- what is asked for: the document, or a decision about a question of a kind that has this body
module _ (base : List ℕ) (decided : QuestionKind → (body : List ℕ) → DecidedAnswer → Type 0) where
  abbrev pub IsAnswerAt : DecideRoute → (body : List ℕ) → DecidedAnswer → Type 0
  IsAnswerAt (Ask kind) body decision = decided kind body decision
  IsAnswerAt Configuration body decision =
      decision ≡ record { status = 200; body = compact_text (configuration base); told = configuration_told }

  -- the response, with these fields besides those of every response: that of an answer, or that to what is no request
  abbrev pub IsResponseFor : Result Asked HttpRefusal → (fields : List ℕ) → (status : ℕ) → (bytes told : List ℕ) → Type 0
  IsResponseFor (Ok asked) fields status bytes told =
      (decision : DecidedAnswer) × IsAnswerAt asked.route asked.body decision × (status ≡ decision.status)
      × (bytes ≡ response_text decision.status fields decision.body) × (told ≡ decision.told)
  IsResponseFor (Err refusal) fields status bytes told =
      (status ≡ refusal_status refusal) × (bytes ≡ refusal_response_with refusal fields) × (told ≡ refusal_told refusal)

  -- It repeats the id of the request.
  abbrev pub IsResponseTo : DecideRequest → (status : ℕ) → (bytes told : List ℕ) → Type 0
  IsResponseTo request status bytes told = IsResponseFor request.question (id_field request.id) status bytes told
