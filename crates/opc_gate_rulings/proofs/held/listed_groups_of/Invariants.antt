use Rattle.std.proofs.Common.{◌≡◌, take}
use Rattle.opc_policy_members.specs.Held.{listed_groups}
use Rattle.opc_policy_members.specs.Members.{groups_of}
use Rattle.opc_state.specs.Changes.{IsKept}
use Rattle.opc_state.specs.State.{State}
use Rattle.opc_gate_rulings.proofs.held.listed_groups_of.Given as goal

abbrev pub invariant-loop-entry : goal.invariant-loop-entry
invariant-loop-entry g l =
    IsKept g.T.Tables.meaning l.fn.tables l.tables
    × (g.T.Tables.meaning.is_sure l.tables → (s : State) → g.T.Tables.meaning.represents l.fn.tables s
    → l.groups.items ≡ listed_groups (take l.entry-index l.entries) (groups_of s.policy.connects l.user.id))
