-- The reply to the body of a request, by the kind of its question.
use Rattle.std.specs.Prelude.{ℕ, List}
use Rattle.opc_decide_answers.specs.Decisions.{NamedState}
use Rattle.opc_decide_answers.specs.Evaluated.{evaluation, evaluations}
use Rattle.opc_decide_answers.specs.declared.reply.DecideReply.{DecideReply}
use Rattle.opc_decide_searches.specs.declared.sought.SearchKind.TheVariants as part
use Rattle.opc_decide_searches.specs.SearchReplies.{search}
use Rattle.opc_decide_present.specs.declared.kind.QuestionKind.{QuestionKind}
use Rattle.opc_decide_present.specs.declared.kind.QuestionKind.TheVariants as question

abbrev pub reply_to : NamedState → QuestionKind → (body : List ℕ) → DecideReply
reply_to p question.Evaluation body = evaluation p body
reply_to p question.Evaluations body = evaluations p body
reply_to p question.SubjectSearch body = search p part.Subject body
reply_to p question.ActionSearch body = search p part.Action body
reply_to p question.ResourceSearch body = search p part.Resource body
