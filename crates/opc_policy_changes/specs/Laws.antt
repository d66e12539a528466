-- What the other requests leave.
use Rattle.std.specs.Prelude.{◌≡◌, ℕ, false, List}
use Rattle.opc_policy_members.specs.declared.row.Row.{Row}
use Rattle.opc_state.specs.PolicyFile.{rows_of}
use Rattle.opc_state.specs.State.{State}
use Rattle.opc_machine.specs.declared.request.Answer.{Answer}
use Rattle.opc_machine.specs.declared.request.Request.{Request}
use Rattle.opc_machine.specs.Inputs.{input_of}
use Rattle.opc_machine.specs.Machine.{Step}
use Rattle.opc_policy_changes.specs.Changing.{may_change}

-- what a policy file has of a state
abbrev pub rows_in : State → List Row
rows_in s = rows_of s.policy s.board.consoles

abbrev pub OthersLeaveThePolicyFile : Type 0
OthersLeaveThePolicyFile = (s new : State) (moment : ℕ) (request : Request) (answer : Answer)
    → Step s moment (input_of request) answer new → may_change request answer ≡ false → rows_in new ≡ rows_in s
