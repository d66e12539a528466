use Rattle.std.proofs.Common.{◌≤◌, ◌-◌, length}
use Rattle.opc_policy_shared.proofs.InOrder.{NoneBefore}
use Rattle.opc_policy_shared.proofs.candidates.Candidates.deciding.Given as goal

abbrev pub invariant-loop-place : goal.invariant-loop-place
invariant-loop-place l = (l.place ≤ length l.self) × NoneBefore l.resource l.self l.place

abbrev pub decreases-loop-place : goal.decreases-loop-place
decreases-loop-place l = length l.self - l.place
