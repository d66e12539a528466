-- A written policy that is exported, and imported into new tables.
use Rattle.std.specs.Prelude.{◌≡◌, List, Ok, map}
use Rattle.opc_policy_members.specs.declared.policy.Policy.{Policy}
use Rattle.opc_board.specs.declared.rows.ConsoleRow.{ConsoleRow}
use Rattle.opc_board.specs.Consoles.{new_console}
use Rattle.opc_state.specs.PolicyFile.{rows_of}
use Rattle.opc_state.specs.State.{State, empty}
use Rattle.opc_machine.specs.Bootstrap.{bootstrapped}
use Rattle.opc_machine_invariants.specs.KeptInvariants.{HasInvariants}

-- a console as a policy defines it
abbrev pub as_defined : ConsoleRow → ConsoleRow
as_defined c = new_console c.name c.auth c.mode

-- a policy and consoles, and nothing else
abbrev pub written : Policy → List ConsoleRow → State
written p consoles = record empty { policy = p; board = record empty.board { consoles = map as_defined consoles } }

-- What is exported from a state that meets its invariants comes back.
abbrev pub ExportsComeBack : Type 0
ExportsComeBack = (s : State) → HasInvariants s
    → bootstrapped (rows_of s.policy s.board.consoles) empty ≡ Ok (written s.policy s.board.consoles)
