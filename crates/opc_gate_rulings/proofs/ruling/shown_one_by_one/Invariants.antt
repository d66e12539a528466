use Rattle.std.proofs.Common.{◌≡◌, filter}
use Rattle.opc_state.specs.State.{State}
use Rattle.opc_state.specs.Changes.{IsKept}
use Rattle.opc_machine.specs.Rulings.{shown}
use Rattle.opc_gate_rulings.specs.RulingBasis.{IsRulingBasis}
use Rattle.opc_gate_rulings.proofs.ruling.shown_one_by_one.Given as goal

abbrev pub invariant-loop-line : goal.invariant-loop-line
invariant-loop-line g l =
    IsKept g.T.Tables.meaning l.fn.tables l.tables
    × (g.T.Tables.meaning.is_sure l.tables → (s : State) → g.T.Tables.meaning.represents l.fn.tables s
    → IsRulingBasis s l.console l.basis → l.kept ≡ filter (shown s l.console) l.yielded)
