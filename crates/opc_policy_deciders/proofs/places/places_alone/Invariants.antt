use Rattle.std.proofs.Common.{◌≡◌, take}
use Rattle.opc_policy_deciders.specs.Places.{places_alone}
use Rattle.opc_policy_deciders.proofs.places.places_alone.Given as goal

abbrev pub invariant-loop-place : goal.invariant-loop-place
invariant-loop-place l = l.list.items ≡ places_alone 0 (take l.place l.stand)
