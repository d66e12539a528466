-- The answer of the rows of a policy to a question, and how it is written.
use Rattle.std.specs.Prelude.{◌≡◌, ℕ, Bool, List, Option, Some, None, Result, Ok, Err}
use Rattle.opc_terms.specs.declared.fault.Fault.{Fault}
use Rattle.opc_policy_members.specs.declared.row.Row.{Row}
use Rattle.opc_policy.specs.declared.verdict.Verdict.{Verdict}
use Rattle.opc_state.specs.State.{State}
use Rattle.opc_answers.specs.Answers.{answer_made, answer_of}
use Rattle.opc_answers.specs.Json.{who_json}
use Rattle.opc_answers.specs.Texts.{who_text}
use Rattle.opc_answers.specs.Why.{why_text}
use Rattle.opc_answers.specs.WhyJson.{why_json}
use Rattle.opc_answers.specs.declared.answer.PolicyAnswer.{PolicyAnswer}
use Rattle.opc_answers.specs.declared.answer.PolicyAnswer.TheVariants as answer
use Rattle.opc_answers.specs.declared.logons.Instead.{Instead}
use Rattle.opc_answers.specs.declared.who.Who.{Who}
use Rattle.opc_answers.specs.declared.why.Explanation.{Explanation}
use Rattle.opc_check.specs.declared.form.Form.{Form}
use Rattle.opc_check.specs.declared.form.Form.TheVariants.{Json, Text}
use Rattle.opc_cli_failures.specs.declared.status.Status.{Status}
use Rattle.opc_cli_failures.specs.declared.status.Status.TheVariants.{Done, Refused}
use Rattle.opc_cli_questions.specs.Printed.{PrintedAnswer, answered, nothing_text, status_of_verdict}
use Rattle.opc_cli_tasks.specs.declared.question.Ask.{Ask}

-- how an answer is written, and its status
abbrev pub why_shown : Form → Explanation → List ℕ
why_shown Text why = why_text why
why_shown Json why = why_json why

abbrev pub who_shown : Form → (allowed : Bool) → Who → List ℕ
who_shown Text allowed who = who_text allowed who
who_shown Json allowed who = who_json allowed who

abbrev pub shown : Form → PolicyAnswer → List ℕ
shown form answer.Nothing = nothing_text form
shown form (answer.Why why) = why_shown form why
shown form (answer.Who who allowed) = who_shown form allowed who

-- whatever replaces a verdict, the user may not
abbrev pub status_of_why : Verdict → Option Instead → Status
status_of_why verdict None = status_of_verdict verdict
status_of_why verdict (Some instead) = Refused

abbrev pub status_of : PolicyAnswer → Status
status_of answer.Nothing = Done
status_of (answer.Why why) = status_of_why why.verdict why.instead
status_of (answer.Who who allowed) = Done

abbrev pub written : Form → Result PolicyAnswer Fault → Result PrintedAnswer Fault
written form (Ok a) = Ok (answered (shown form a) (status_of a))
written form (Err fault) = Err fault

-- what the rows of a policy answer
abbrev pub question_answer : Ask → List Row → Result PrintedAnswer Fault
question_answer ask rows = written ask.form (answer_of ask.question rows)

-- this is that
abbrev pub IsQuestionAnswer : Ask → List Row → Result PrintedAnswer Fault → Type 0
IsQuestionAnswer ask rows answer = question_answer ask rows ≡ answer

-- what the state that rows make answers
abbrev pub IsStateAnswer : Ask → State → Result PrintedAnswer Fault → Type 0
IsStateAnswer ask s answer = written ask.form (answer_made ask.question (Ok s)) ≡ answer
