-- Which row of a policy file is refused.
use Rattle.std.specs.Prelude.{◌≡◌, ◌+◌, ⊤, ℕ, List, Option, Some, None, Ok, slice_get}
use Rattle.opc_policy_members.specs.declared.policy.Policy.{Policy}
use Rattle.opc_policy_members.specs.declared.row.Row.{Row}
use Rattle.opc_policy_members.specs.Taken.{IsRefusedAt, no_policy, policy_after}
use Rattle.opc_check.specs.declared.problem.RowProblem.{RowProblem}
use Rattle.opc_check.specs.Problems.{problem_of, refused_problem}
use Rattle.opc_check.specs.RowLines.{row_lines}
use Rattle.opc_cli_failures.specs.declared.failure.Place.{Place}
use Rattle.opc_cli_failures.specs.declared.reason.Reason.{Reason}
use Rattle.opc_cli_failures.specs.declared.reason.Reason.TheVariants as reason

-- The row is the first that is refused after those that are stored: its number from 1 on, its fault, and why in words.
pub record IsRefusedRow (stored rows : List Row) (problem : RowProblem) : Type 0 where
  pub policy : Policy
  pub is_stored : policy_after stored no_policy ≡ Ok policy
  pub before : Policy
  pub count : ℕ
  pub number_is : problem.number ≡ count + 1
  pub refused : IsRefusedAt policy before rows count problem.fault
  pub row : Row
  pub is_there : slice_get rows count ≡ Some row
  pub in_words : problem_of problem ≡ refused_problem stored rows (record {
    number = problem.number;
    row = row;
    policy = before;
    fault = problem.fault;
  })

-- the line of a text on which a row begins, if it has this row
abbrev pub line_in : List ℕ → (row : ℕ) → Option ℕ
line_in text row = slice_get (row_lines text) row

-- That row, and its line.
abbrev pub IsRefusalOf : (text : List ℕ) → (stored rows : List Row) → Reason → Type 0
IsRefusalOf text stored rows (reason.Row problem line) =
    IsRefusedRow stored rows problem × (line ≡ line_in text problem.number)
IsRefusalOf text stored rows other = ⊥

-- Nothing is reported, or the row that is refused.
abbrev pub TellsOf : (text : List ℕ) → (stored rows : List Row) → Option (Place × Reason) → Type 0
TellsOf text stored rows None = ⊤
TellsOf text stored rows (Some (place, reason)) = IsRefusalOf text stored rows reason
