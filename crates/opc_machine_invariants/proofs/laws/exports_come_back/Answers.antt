use Rattle.std.proofs.Common.{ap₂}
use Rattle.opc_state.specs.State.{empty}
use Rattle.opc_machine.specs.Bootstrap.{with_rows_of}
use Rattle.opc_machine_invariants.proofs.ExportedBoards.{consoles_come_back}
use Rattle.opc_machine_invariants.proofs.ExportedPolicies.{policy_comes_back}
use Rattle.opc_machine_invariants.proofs.laws.exports_come_back.Goals as goal

pub returns : goal.returns
returns c = λ s invariants.
    ap₂ (with_rows_of empty) (consoles_come_back s.policy s.board.consoles invariants.state.board.consoles_rise)
    (policy_comes_back s.policy invariants.state.policy invariants.order s.board.consoles)
