use Rattle.std.proofs.Common.{◌≡◌, filter, length}
use Rattle.std.specs.Prelude.{vec_len}
use Rattle.opc_state.specs.State.{State}
use Rattle.opc_state.specs.Changes.{IsKept}
use Rattle.opc_machine.specs.Rulings.{shown}
use Rattle.opc_gate_rulings.specs.RulingBasis.{IsRulingBasis}
use Rattle.opc_gate_rulings.specs.Shared.{AreKnown, AreLoaded}
use Rattle.opc_gate_rulings.specs.declared.ruling.RulingBasis.TheVariants.{User}
use Rattle.opc_gate_rulings.proofs.shown.shown_among.Given as goal

abbrev pub invariant-loop-line : goal.invariant-loop-line
invariant-loop-line g l =
    (vec_len l.levels ≡ length l.shortlist.candidates)
    × IsKept g.T.Tables.meaning l.fn.tables l.tables
    × (g.T.Tables.meaning.is_sure l.tables → (s : State) → g.T.Tables.meaning.represents l.fn.tables s
    → AreLoaded s l.shortlist.beginning.now l.shortlist.candidates → IsRulingBasis s l.console (User l.user)
    → AreKnown s l.user l.console.name l.shortlist.candidates l.levels.items × (l.kept ≡ filter (shown s l.console) l.yielded))
