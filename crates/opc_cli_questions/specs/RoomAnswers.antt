-- The answer by what the rows of a policy make, which is kept for other questions.
use Rattle.std.specs.Prelude.{◌≡◌, ℕ, List, Option, Some, None, Result}
use Rattle.opc_state.specs.State.{State}
use Rattle.opc_cli_failures.specs.declared.failure.Failure.{Failure}
use Rattle.opc_cli_failures.specs.declared.status.Status.{Status}
use Rattle.opc_cli_questions.specs.Printed.{IsWritten}
use Rattle.opc_cli_questions.specs.Questions.{IsStateAnswer}
use Rattle.opc_cli_tasks.specs.declared.question.Ask.{Ask}

-- The answer was written; or there is none, and nothing was written.
abbrev pub IsWrittenBy : {W : Type 0} → (contents : W → Option (List ℕ)) → (before written : W) → Ask → State
    → (end : Option (Result Status Failure)) → Type 0
IsWrittenBy contents before written ask s None = written ≡ before
IsWrittenBy contents before written ask s (Some end) = IsWritten contents before written (IsStateAnswer ask s) end
