use Rattle.std.proofs.Common.{◌≡◌, ◌&&◌, ◌||◌, ℕ, List, map, take}
use Rattle.opc_policy_witness.specs.Masks.{fits, fits_one}
use Rattle.opc_policy_witness.proofs.common.add_common.Given as goal

abbrev pub invariant-loop-other : goal.invariant-loop-other
invariant-loop-other l =
    (s : List ℕ) → fits_one (map (λ m. m.items) l.all.items) s ≡ (fits_one (map (λ m. m.items) l.initial.all.items) s
    || fits l.mask s && fits_one (map (λ m. m.items) (take l.other-index l.others)) s)
