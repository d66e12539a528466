-- The answer of a policy file to any question about a policy.
use Rattle.std.specs.Prelude.{ℕ, List, Option}
use Rattle.std.specs.Option.{option_copied}
use Rattle.opc_io.specs.declared.watched.Watched.{Watched}
use Rattle.opc_cli_failures.specs.declared.status.Status.{Status}
use Rattle.opc_cli_questions.specs.Checks.{IsReportedCheck}
use Rattle.opc_cli_questions.specs.May.{IsMayAnswer}
use Rattle.opc_cli_questions.specs.Printed.{IsReportedBy}
use Rattle.opc_cli_questions.specs.Questions.{IsQuestionAnswer}
use Rattle.opc_cli_questions.specs.Sheets.{IsFileSheet}
use Rattle.opc_cli_tasks.specs.declared.question.PolicyQuestion.{PolicyQuestion}
use Rattle.opc_cli_tasks.specs.declared.question.PolicyQuestion.TheVariants as question

-- A question about a policy is answered by a policy file, which has this left.
module _ {W E : Type 0} (contents : W → Option (List ℕ)) (shown : E → Option (List ℕ)) (before written : Watched W)
    (quiet reported : Watched E) (status : Status) where
  abbrev pub IsAnsweredByFile : PolicyQuestion → (left : Option (List ℕ)) → Type 0
  IsAnsweredByFile (question.Ask ask) left =
      IsReportedBy contents (λ (e : Watched E). shown e.inner) (λ (e : Watched E). e.failed) before.inner
      written.inner quiet reported (IsQuestionAnswer ask) left status
  IsAnsweredByFile (question.Check q) left =
      IsReportedCheck contents (λ (e : Watched E). shown e.inner) (λ (e : Watched E). e.failed) before.inner
      written.inner quiet reported q.form (option_copied q.allowed) left status
  IsAnsweredByFile (question.May asked) left =
      IsReportedBy contents (λ (e : Watched E). shown e.inner) (λ (e : Watched E). e.failed) before.inner
      written.inner quiet reported (IsMayAnswer asked) left status
  IsAnsweredByFile (question.Sheet name) left =
      IsReportedBy contents (λ (e : Watched E). shown e.inner) (λ (e : Watched E). e.failed) before.inner
      written.inner quiet reported (IsFileSheet name.now left) left status
