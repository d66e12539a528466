-- The answers of tables to questions about their policy.
use Rattle.std.specs.Prelude.{◌≡◌, ℕ, List, None, Option, Result, Ok}
use Rattle.std.specs.Option.{option_copied}
use Rattle.opc_terms.specs.declared.fault.Fault.{Fault}
use Rattle.opc_policy_members.specs.declared.row.Row.{Row}
use Rattle.opc_reader.specs.Reading.{reading}
use Rattle.opc_state.specs.Changes.{IsKept}
use Rattle.opc_state.specs.Meaning.{Meaning}
use Rattle.opc_state.specs.PolicyFile.{rows_of}
use Rattle.opc_state.specs.State.{State}
use Rattle.opc_cli_questions.specs.Checks.{noted}
use Rattle.opc_cli_failures.specs.declared.failure.Failure.{Failure}
use Rattle.opc_cli_failures.specs.declared.status.Status.{Status}
use Rattle.opc_answers.specs.declared.question.About.{About}
use Rattle.opc_answers.specs.declared.question.About.TheVariants.{Command, Access}
use Rattle.opc_cli_questions.specs.Printed.{PrintedAnswer, IsWritten}
use Rattle.opc_cli_questions.specs.May.{IsMayAnswer}
use Rattle.opc_cli_questions.specs.Questions.{IsQuestionAnswer}
use Rattle.opc_cli_questions.specs.Kinds.{kind_in, kind_or}
use Rattle.opc_cli_questions.specs.Sheets.{IsRowsSheet}
use Rattle.opc_cli_tasks.specs.declared.question.Ask.{Ask}
use Rattle.opc_cli_tasks.specs.declared.question.PolicyQuestion.{PolicyQuestion}
use Rattle.opc_cli_tasks.specs.declared.question.PolicyQuestion.TheVariants as question

-- the rows of the policy file that an export of a state writes
abbrev pub exported_rows : State → List Row
exported_rows s = rows_of s.policy s.board.consoles

-- A question about a command is about the unit on the board, unless --as gives its kind.
abbrev pub about_on : State → About → About
about_on s (Command text kind) = Command text (kind_or kind (kind_in s.board (reading text.now)))
about_on s (Access class resource level) = Access class resource level

abbrev pub ask_on : State → Ask → Ask
ask_on s ask = record ask { question = record ask.question { about = about_on s ask.question.about } }

abbrev pub on_board : State → PolicyQuestion → PolicyQuestion
on_board s (question.Ask ask) = question.Ask (ask_on s ask)
on_board s (question.Check c) = question.Check c
on_board s (question.May asked) = question.May asked
on_board s (question.Sheet name) = question.Sheet name

-- The rows of a policy answer this. Those of an export can be loaded, so that `check` has notes on them alone.
abbrev pub IsRowsAnswer : PolicyQuestion → List Row → Result PrintedAnswer Fault → Type 0
IsRowsAnswer (question.Ask ask) rows answer = IsQuestionAnswer ask rows answer
IsRowsAnswer (question.Check c) rows answer = Ok (noted c.form (option_copied c.allowed) None rows) ≡ answer
IsRowsAnswer (question.May asked) rows answer = IsMayAnswer asked rows answer
IsRowsAnswer (question.Sheet name) rows answer = IsRowsSheet name.now rows answer

-- a state answers this to a question
abbrev pub IsStateAnswer : State → PolicyQuestion → Result PrintedAnswer Fault → Type 0
IsStateAnswer s q answer = IsRowsAnswer (on_board s q) (exported_rows s) answer

module _ {T W : Type 0} (m : Meaning T) (contents : W → Option (List ℕ)) (old new : T) (before written : W)
    (end : Result Status Failure) where
  -- The answer of the state that the tables represent was written, and they were not changed; or an allocation, the
  -- tables or the output failed.
  pub record IsAnsweredOver (q : PolicyQuestion) : Type 0 where
    pub kept : IsKept m old new
    pub answers : m.is_sure new → (s : State) → m.represents old s
        → IsWritten contents before written (IsStateAnswer s q) end
