use Rattle.std.proofs.Common.{◌≡◌, ℕ, List, false, map, take}
use Rattle.opc_policy_witness.specs.Masks.{is_among}
use Rattle.opc_policy_witness.proofs.search.find_any.Given as goal

abbrev pub invariant-loop-mask : goal.invariant-loop-mask
invariant-loop-mask l =
    (s : List ℕ) → is_among l.places (map (λ mask. mask.items) (take l.mask-index l.include))
    (map (λ mask. mask.now) l.exclude.items) s ≡ false
