-- The answer to a question by a policy file: the response, and what a log tells of it.
use Rattle.std.specs.Prelude.{◌≡◌, ◌↔◌, ℕ, true, List, Option, Some, codes, option_and_then}
use Rattle.std.specs.Result.{result_ok}
use Rattle.serde_json.specs.Data.{boolean}
use Rattle.serde_json.specs.Find.{get}
use Rattle.serde_json.specs.Read.{read}
use Rattle.opc_policy_members.specs.declared.row.Row.{Row}
use Rattle.opc_answers.specs.declared.question.Question.{Question}
use Rattle.opc_answers.specs.Answers.{answer_of}
use Rattle.opc_decide_requests.specs.AccessQuestions.{AsksFor}
use Rattle.opc_decide_requests.specs.Requests.{request_question, value_of}
use Rattle.opc_decide_requests.specs.declared.question.AccessQuestion.{AccessQuestion}
use Rattle.opc_decide_answers.specs.DecisionLaws.{IsSaid}
use Rattle.opc_decide_answers.specs.Decisions.{NamedState}
use Rattle.opc_decide_answers.specs.declared.reply.DecideReply.{DecideReply}
use Rattle.opc_decide_present.specs.declared.decider.DecidedAnswer.{DecidedAnswer}
use Rattle.opc_decide_present.specs.declared.kind.QuestionKind.{QuestionKind}
use Rattle.opc_decide_present.specs.declared.kind.QuestionKind.TheVariants as question
use Rattle.opc_decide_files.specs.DecidingFiles.{policy_in, rows_in}
use Rattle.opc_decide_files.specs.Replying.{reply_to}
use Rattle.opc_decide_files.specs.Told.{told_of}

-- a reply, with what a log tells of it
abbrev pub answer_by : DecideReply → (told : List ℕ) → DecidedAnswer
answer_by reply told = record { status = reply.status; body = reply.body; told = told }

abbrev pub answer_to : NamedState → QuestionKind → (body : List ℕ) → DecidedAnswer
answer_to p kind body = answer_by (reply_to p kind body) (told_of p kind body)

-- The body of a response is JSON that says `"decision":true`.
abbrev pub SaysTrue : (response : List ℕ) → Type 0
SaysTrue response = option_and_then (get (codes "decision")) (read response) ≡ Some (boolean true)

-- The body of a request asks this question of `explain`.
abbrev pub question_in : (body : List ℕ) → Option AccessQuestion
question_in body = option_and_then (λ v. result_ok (request_question v)) (value_of body)

pub record IsQuestionOf (body : List ℕ) (q : Question) : Type 0 where
  pub asked : AccessQuestion
  pub reads : question_in body ≡ Some asked
  pub asks : AsksFor asked q

-- The body of the response to an evaluation says `"decision":true` exactly if `explain` of the same question over that
-- file prints ALLOWED.
abbrev pub SaysWhatIsAllowed : (file body response : List ℕ) → Type 0
SaysWhatIsAllowed file body response = (rows : List Row) (q : Question)
    → rows_in file ≡ Some rows → IsQuestionOf body q
    → SaysTrue response ↔ IsSaid (codes "ALLOWED") (answer_of q rows)

-- the answer to a body by a policy file
pub record IsAnswer (file : List ℕ) (kind : QuestionKind) (body : List ℕ) (answer : DecidedAnswer) : Type 0 where
  pub policy : NamedState
  pub loaded : policy_in file ≡ Some policy
  pub is : answer ≡ answer_to policy kind body
  pub says : kind ≡ question.Evaluation → SaysWhatIsAllowed file body answer.body
