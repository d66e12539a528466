use Rattle.std.proofs.Common.{◌≡◌, take}
use Rattle.opc_machine.specs.Bootstrap.{consoles_after}
use Rattle.opc_state.specs.State.{empty}
use Rattle.opc_answers.proofs.room.board_made.Given as goal

abbrev pub invariant-loop-row : goal.invariant-loop-row
invariant-loop-row l = consoles_after (take l.row-index l.rows) empty.board ≡ l.board
