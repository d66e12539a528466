use Rattle.std.proofs.Common.{◌≤◌, ◌<◌, ◌-◌, length}
use Rattle.opc_state.specs.Changes.{IsKept}
use Rattle.opc_state.specs.State.{State}
use Rattle.opc_account_length.proofs.length.account_length.Given as goal

abbrev pub invariant-loop-past : goal.invariant-loop-past
invariant-loop-past g l =
    IsKept g.T.Tables.meaning l.fn.tables l.tables × (l.known < l.past)
    × (g.T.Tables.meaning.is_sure l.tables → (s : State) → g.T.Tables.meaning.represents l.fn.tables s
    → (l.known ≤ length s.account) × (length s.account < l.past))

abbrev pub decreases-loop-past : goal.decreases-loop-past
decreases-loop-past g l = l.past - l.known
