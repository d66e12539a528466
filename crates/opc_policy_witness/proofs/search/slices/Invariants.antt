use Rattle.std.proofs.Common.{◌≡◌, map, take}
use Rattle.opc_policy_witness.proofs.search.slices.Given as goal

abbrev pub invariant-loop-mask : goal.invariant-loop-mask
invariant-loop-mask l =
    map (λ mask. mask.now) l.slices.items ≡ map (λ mask. mask.items) (take l.mask-index l.masks)
