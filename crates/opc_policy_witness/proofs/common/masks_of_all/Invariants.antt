use Rattle.std.proofs.Common.{◌≡◌, ℕ, List, length, map, take}
use Rattle.std.specs.List.{list_all}
use Rattle.opc_policy_witness.specs.Masks.{fits_one}
use Rattle.opc_policy_witness.specs.Pieces.{filled, size}
use Rattle.opc_policy_witness.specs.Witness.{covers_parts}
use Rattle.opc_policy_witness.proofs.common.masks_of_all.Given as goal

abbrev pub invariant-loop-pattern : goal.invariant-loop-pattern
invariant-loop-pattern l =
    (s : List ℕ) → length s ≡ size l.pieces → fits_one (map (λ m. m.items) l.masks.items) s
    ≡ list_all (covers_parts (filled l.pieces s)) (take l.pattern-index l.patterns)
