-- The first policy of a gate, in whose tables no user is stored.
use Rattle.std.specs.Prelude.{◌&&◌, Bool, true, false, not, if◌then◌else◌, List, [], ◌∷◌, Result, Ok, Err}
use Rattle.opc_terms.specs.declared.fault.Fault.{Fault}
use Rattle.opc_terms.specs.declared.fault.Fault.TheVariants.{NotEmpty, LastMaster}
use Rattle.opc_policy_members.specs.declared.policy.Policy.{Policy}
use Rattle.opc_policy_members.specs.declared.row.Row.{Row}
use Rattle.opc_policy_members.specs.declared.row.Row.TheVariants as rows
use Rattle.opc_policy_members.specs.Taken.{policy_after}
use Rattle.opc_board.specs.declared.board.BoardRows.{BoardRows}
use Rattle.opc_board.specs.Consoles.{console_defined}
use Rattle.opc_board.specs.Invariants.{has_master}
use Rattle.opc_state.specs.State.{State, has_users}

-- the board after the consoles of rows, which have no faults
abbrev pub console_after : Row → BoardRows → BoardRows
console_after (rows.Console name auth mode) b = console_defined name auth mode b
console_after other b = b

abbrev pub consoles_after : List Row → BoardRows → BoardRows
consoles_after [] b = b
consoles_after (row ∷ more) b = consoles_after more (console_after row b)

-- if an online console has AUTH MASTER, one has it afterwards
abbrev pub loses_master : BoardRows → BoardRows → Bool
loses_master old new = has_master old.consoles && not (has_master new.consoles)

abbrev pub mastered : Bool → State → Result State Fault
mastered true s = Err LastMaster
mastered false s = Ok s

-- Administration, imports and the first policy all have this outcome: a policy, or the first thing in the way; then the
-- consoles, unless the last master is lost.
abbrev pub with_rows_of : State → BoardRows → Result Policy Fault → Result State Fault
with_rows_of s board (Ok policy) = mastered (loses_master s.board board) (record s { policy = policy; board = board })
with_rows_of s board (Err fault) = Err fault

-- the state after rows, or why they are refused
abbrev pub with_rows : List Row → State → Result State Fault
with_rows more s = with_rows_of s (consoles_after more s.board) (policy_after more s.policy)

-- and no user is stored yet
abbrev pub bootstrapped : List Row → State → Result State Fault
bootstrapped more s = if has_users s.policy then Err NotEmpty else with_rows more s
