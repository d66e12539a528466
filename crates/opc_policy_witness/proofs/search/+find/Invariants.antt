use Rattle.std.proofs.Common.{◌≡◌, ◌∷◌, ◌<◌, ℕ, List, false, length, get_or, map}
use Rattle.opc_policy_witness.specs.Masks.{is_between}
use Rattle.opc_policy_witness.proofs.search.+find.Given as goal

abbrev pub decreases-find : goal.decreases-find
decreases-find l = length l.places.now

-- no name begins with one of the characters that were tried
abbrev pub invariant-loop-character : goal.invariant-loop-character
invariant-loop-character l =
    (k : ℕ) → k < l.character-index → (s : List ℕ)
    → is_between l.places l.include (map (λ mask. mask.now) l.exclude) (get_or l.character-items k 0 ∷ s) ≡ false
