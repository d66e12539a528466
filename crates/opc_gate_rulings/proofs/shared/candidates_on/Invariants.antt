use Rattle.std.proofs.Common.{◌≡◌, ◌≤◌, length}
use Rattle.opc_policy_members.specs.Profiles.{AreProfiles}
use Rattle.opc_policy_shared.proofs.Gathered.{AreGathered}
use Rattle.opc_state.specs.State.{State}
use Rattle.opc_state.specs.Changes.{IsKept}
use Rattle.opc_state.specs.Invariants.{IsKeyed}
use Rattle.opc_gate_rulings.specs.Shared.{opercmds}
use Rattle.opc_gate_rulings.proofs.shared.candidates_on.Given as goal

abbrev pub invariant-loop-length : goal.invariant-loop-length
invariant-loop-length g l =
    IsKept g.T.Tables.meaning l.fn.tables l.tables
    × (g.T.Tables.meaning.is_sure l.tables → (s : State) → g.T.Tables.meaning.represents l.fn.tables s
    → AreGathered l.beginning.first.now l.beginning.last.now (opercmds s) l.length l.profiles.items
    × IsKeyed s × AreProfiles (opercmds s))
