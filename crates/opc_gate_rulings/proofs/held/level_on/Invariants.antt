use Rattle.opc_state.specs.Changes.{IsKept}
use Rattle.opc_gate_rulings.proofs.held.level_on.Given as goal

abbrev pub invariant-loop : goal.invariant-loop
invariant-loop g l = IsKept g.T.Tables.meaning l.fn.tables l.tables
