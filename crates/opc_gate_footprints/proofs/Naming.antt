-- What a command names is its footprint.
use Rattle.std.proofs.Common.{◌≡◌, true}
use Rattle.opc_board.specs.declared.board.BoardRows.{BoardRows}
use Rattle.opc_board.specs.Invariants.{Name, console_before, is, is_master}
use Rattle.opc_board.specs.Replies.{is_on}
use Rattle.opc_board.specs.Footprint.{IsInOrder, Footprint, HasVaried, only, has_console_of}
use Rattle.opc_board.specs.Units.{is_holder}
use Rattle.opc_board.proofs.Kept.{apart_names}
use Rattle.opc_rows.proofs.Filtered.{any_seen}
use Rattle.opc_gate_footprints.specs.BoardKeys.{HasMasters, HasConsolesOf}
use Rattle.opc_gate_footprints.proofs.Taken.{two_seen}

pub varied_sees : (footprint : Footprint) (b : BoardRows) (name : Name) → IsInOrder b → (footprint.consoles name ≡ true)
    × HasMasters footprint b → HasVaried footprint b name
varied_sees footprint b name order sees = (
  sees.0,
  two_seen is_master (has_console_of footprint) (λ c. is c.name name) console_before
      (λ x y here after. apart_names x.name y.name name here after) b.consoles order.consoles sees.1,
)

pub addressed_sees : (footprint : Footprint) (b : BoardRows) (user : Name) → (footprint.units user ≡ true)
    × HasConsolesOf footprint b user → (is_on user (only footprint b) ≡ is_on user b) × (footprint.units user ≡ true)
addressed_sees footprint b user sees = (any_seen (λ c. is_holder user c.user) (has_console_of footprint) b.consoles sees.1, sees.0)
