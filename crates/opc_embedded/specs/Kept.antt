-- A policy that is kept: what its text makes, by which explain and who are answered.
use Rattle.std.specs.Prelude.{◌≡◌, ◌≤◌, ℕ, List, Option, Some, None, Result, Ok, Err, IfErr, false, length, true}
use Rattle.std.specs.Result.{result_ok}
use Rattle.std.specs.Str.{is_utf8}
use Rattle.opc_io.specs.declared.watched.Watched.{Watched}
use Rattle.opc_policy_members.specs.declared.row.Row.{Row}
use Rattle.opc_import.specs.declared.fault.ImportFault.{ImportFault}
use Rattle.opc_import.specs.Files.{policy_of}
use Rattle.opc_state.specs.State.{State, empty}
use Rattle.opc_machine.specs.Bootstrap.{bootstrapped}
use Rattle.opc_answers.specs.Made.{members_of, state_of}
use Rattle.opc_answers.specs.declared.room.Room.{Room}
use Rattle.opc_check.specs.Unread.{policy_limit}
use Rattle.opc_cli_failures.specs.declared.failure.Failure.{Failure}
use Rattle.opc_cli_failures.specs.declared.status.Status.{Status}
use Rattle.opc_cli_failures.specs.Printing.{IsReported}
use Rattle.opc_cli_failures.specs.Statuses.{status_of_end}
use Rattle.opc_cli_questions.specs.Printed.{IsWritten}
use Rattle.opc_cli_questions.specs.Questions.{IsStateAnswer}
use Rattle.opc_cli_tasks.specs.declared.question.Ask.{Ask}

-- what the rows of a policy file make, if they make a policy
abbrev pub made_by : Result (List Row) ImportFault → Option State
made_by (Ok rows) = result_ok (bootstrapped rows empty)
made_by (Err fault) = None

-- The text is a policy file, and the room is what its rows make.
pub record IsMadeBy (text : List ℕ) (room : Room) : Type 0 where
  pub fits : length text ≤ policy_limit
  pub utf8 : is_utf8 text ≡ true
  pub makes : made_by (policy_of text) ≡ Some (state_of room.policy room.board)
  pub members : room.members ≡ members_of room.policy

-- A question to explain or who was answered by a room.
pub record IsAnsweredByRoom {W E : Type 0} (contents : W → Option (List ℕ)) (shown : E → Option (List ℕ))
    (before written : Watched W) (quiet reported : Watched E) (room : Room) (ask : Ask) (status : Status)
    : Type 0 where
  pub end : Result Status Failure
  pub answered : IsWritten contents before.inner written.inner (IsStateAnswer ask (state_of room.policy room.board)) end
  pub status_is : status ≡ status_of_end end
  pub printed : IfErr end (λ failure. reported.failed ≡ false
      → IsReported failure.fault (shown quiet.inner) (shown reported.inner))
