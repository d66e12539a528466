use Rattle.std.proofs.Common.{◌≡◌, map, take}
use Rattle.opc_policy_witness.specs.Masks.{after}
use Rattle.opc_policy_witness.proofs.masks.after.Given as goal

abbrev pub invariant-loop-mask : goal.invariant-loop-mask
invariant-loop-mask l =
    map (λ mask. mask.now) l.left.items ≡ after l.character (map (λ mask. mask.now) (take l.mask-index l.masks))
