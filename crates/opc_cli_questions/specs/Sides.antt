-- A policy that is compared with another one: its rows, and what they make.
use Rattle.std.specs.Prelude.{◌≡◌, ◌⊎◌, ℕ, List, Option, Result, Ok, Err, IfOk}
use Rattle.opc_terms.specs.declared.fault.Fault.{Fault}
use Rattle.opc_policy_members.specs.declared.row.Row.{Row}
use Rattle.opc_state.specs.State.{State, empty}
use Rattle.opc_machine.specs.Bootstrap.{bootstrapped}
use Rattle.opc_answers.specs.Made.{members_of, state_of}
use Rattle.opc_cli_failures.specs.declared.failure.Failure.{Failure}
use Rattle.opc_cli_failures.specs.Statuses.{IsFailure}
use Rattle.opc_cli_questions.specs.Answers.{exported_rows}
use Rattle.opc_cli_questions.specs.PolicyFiles.{AreRead, IsUnread}
use Rattle.opc_cli_questions.specs.declared.sides.PolicySide.{PolicySide}

-- These are its rows, and they make its room, as the first policy of new tables.
pub record IsSide (rows : List Row) (side : PolicySide) : Type 0 where
  pub all : side.rows.items ≡ rows
  pub made : bootstrapped rows empty ≡ Ok (state_of side.room.policy side.room.board)
  pub members : side.room.members ≡ members_of side.room.policy

-- If it is made, its rows make its room.
abbrev pub IsMade : Result PolicySide Failure → Type 0
IsMade result = IfOk result (λ side. IsSide side.rows.items side)

-- Rows make a side; or one of them is refused, and its fault is returned. Or there was no memory.
abbrev pub IsSideOf : List Row → Result PolicySide Failure → Type 0
IsSideOf rows (Ok side) = IsSide rows side
IsSideOf rows (Err failure) = IsFailure failure.fault ⊎ (bootstrapped rows empty ≡ Err failure.fault)

-- A policy file was read, and its rows make a side or not; or it could not be read.
abbrev pub IsSideRead : Option (List ℕ) → Result PolicySide Failure → Type 0
IsSideRead left (Ok side) = (rows : List Row) × AreRead left rows × IsSide rows side
IsSideRead left (Err failure) = IsUnread left failure.fault
    ⊎ ((rows : List Row) × AreRead left rows × (bootstrapped rows empty ≡ Err failure.fault))

-- that of tables, by the rows of their export
abbrev pub IsSideOn : State → Result PolicySide Failure → Type 0
IsSideOn s side = IsSideOf (exported_rows s) side
