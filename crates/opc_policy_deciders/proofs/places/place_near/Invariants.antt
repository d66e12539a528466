use Rattle.std.proofs.Common.{length, ◌-◌, ◌≤◌}
use Rattle.opc_policy_deciders.specs.Places.{ArePassed}
use Rattle.opc_policy_deciders.proofs.places.place_near.Given as goal

abbrev pub invariant-loop-place : goal.invariant-loop-place
invariant-loop-place l =
    (l.from ≤ l.place) × (l.place ≤ length l.patterns) × ArePassed l.skips l.text l.patterns l.stand l.from l.place

abbrev pub decreases-loop-place : goal.decreases-loop-place
decreases-loop-place l = length l.patterns - l.place
