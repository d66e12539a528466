-- The answer of the rows of a policy to a question what a user may.
use Rattle.std.specs.Prelude.{◌≡◌, ⊤, ℕ, Bool, List, Option, Some, None, Result, Ok, Err, string_bytes}
use Rattle.opc_terms.specs.declared.fault.Fault.{Fault}
use Rattle.opc_terms.specs.declared.fault.Fault.TheVariants.{Missing, NoConsole}
use Rattle.opc_policy_members.specs.declared.row.Row.{Row}
use Rattle.opc_answers_may.specs.declared.may.May.{May}
use Rattle.opc_answers_may.specs.May.{may_of}
use Rattle.opc_check.specs.declared.form.Form.{Form}
use Rattle.opc_cli_failures.specs.declared.failure.Place.{Place}
use Rattle.opc_cli_failures.specs.declared.reason.Reason.{Reason}
use Rattle.opc_cli_failures.specs.declared.reason.Reason.TheVariants as reason
use Rattle.opc_cli_failures.specs.declared.status.Status.TheVariants.{Done}
use Rattle.opc_cli_questions.specs.Asking.{console_help, no_user}
use Rattle.opc_cli_questions.specs.MayPrinted.{IsMayText}
use Rattle.opc_cli_questions.specs.Printed.{PrintedAnswer}
use Rattle.opc_cli_tasks.specs.declared.question.MayQuestion.{MayQuestion}

-- how an answer is written
abbrev pub IsMayWritten : Form → (allowed : Bool) → Result May Fault → Result PrintedAnswer Fault → Type 0
IsMayWritten form allowed (Ok may) (Ok answer) = IsMayText form allowed may answer.0 × (answer.1 ≡ Done)
IsMayWritten form allowed (Ok may) (Err fault) = ⊥
IsMayWritten form allowed (Err fault) (Ok answer) = ⊥
IsMayWritten form allowed (Err fault) (Err other) = fault ≡ other

-- the rows of a policy answer this
abbrev pub IsMayAnswer : MayQuestion → List Row → Result PrintedAnswer Fault → Type 0
IsMayAnswer asked rows answer = IsMayWritten asked.form asked.allowed (may_of rows asked.user asked.console) answer

-- what helps, by the fault that it is answered with
abbrev pub may_help : List Row → MayQuestion → Fault → Option (List ℕ)
may_help rows asked (Missing name) = Some (no_user rows asked.user)
may_help rows asked NoConsole = console_help rows asked.console
may_help rows asked fault = None

-- Nothing is said, or what helps.
abbrev pub HelpsMay : List Row → MayQuestion → Fault → Option (Place × Reason) → Type 0
HelpsMay rows asked fault None = ⊤
HelpsMay rows asked fault (Some (place, reason.Hint text)) = may_help rows asked fault ≡ Some (string_bytes text)
HelpsMay rows asked fault (Some (place, other)) = ⊥
