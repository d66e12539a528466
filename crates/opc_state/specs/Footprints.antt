-- The footprints of a state's board and of another board.
use Rattle.std.specs.Prelude.{◌≡◌}
use Rattle.opc_board.specs.declared.board.BoardRows.{BoardRows}
use Rattle.opc_board.specs.History.{without_history}
use Rattle.opc_board.specs.Footprint.{AreLeft, IsInOrder, Footprint, only}
use Rattle.opc_state.specs.Difference.{board_difference}
use Rattle.opc_state.specs.State.{State}

-- The edits between the footprints of two boards are those between the boards, if the other rows are the same.
abbrev pub DifferencesAreLocal : Type 0
DifferencesAreLocal =
    (footprint : Footprint) (old new : BoardRows) → IsInOrder old → IsInOrder new → AreLeft footprint old new
    → board_difference (only footprint old) (only footprint new) ≡ board_difference old new

-- One board is a footprint of a state's, with empty histories. The other is a footprint of a whole one, whose other
-- rows are those of the state.
pub record AreFootprints (old new : BoardRows) (s : State) (whole : BoardRows) : Type 0 where
  pub footprint : Footprint
  pub old_is : old ≡ only footprint (without_history s.board)
  pub new_is : new ≡ only footprint whole
  pub was : IsInOrder s.board
  pub now : IsInOrder whole
  pub left : AreLeft footprint s.board whole
