use Rattle.std.proofs.Common.{◌≡◌, ◌&&◌, ℕ, List, map, take}
use Rattle.opc_policy_witness.specs.Masks.{fits_one}
use Rattle.opc_policy_witness.proofs.common.products.Given as goal

abbrev pub invariant-loop-mask : goal.invariant-loop-mask
invariant-loop-mask l =
    (s : List ℕ) → fits_one (map (λ m. m.items) l.all.items) s
    ≡ (fits_one (map (λ m. m.items) (take l.mask-index l.masks)) s && fits_one (map (λ m. m.items) l.others) s)
