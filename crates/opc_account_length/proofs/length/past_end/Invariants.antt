use Rattle.std.proofs.Common.{◌≤◌}
use Rattle.opc_state.specs.Changes.{IsKept}
use Rattle.opc_account_length.proofs.length.past_end.Given as goal

abbrev pub invariant-loop : goal.invariant-loop
invariant-loop g l = IsKept g.T.Tables.meaning l.fn.tables l.tables × (1 ≤ l.past)
