-- Spaces up to a width.
use Rattle.std.proofs.Common.{◌≡◌, ◌≤◌, ◌∷◌, ℕ, zero, suc, List, ap, arith, refl, replicate, take}

abbrev pub spaces : ℕ → List ℕ
spaces n = replicate n 32

first_of : (most n : ℕ) → n ≤ most → take n (spaces most) ≡ spaces n
first_of most zero few = refl
first_of zero (suc n) few = absurd (omega (arith, few))
first_of (suc most) (suc n) few = ap (λ (t : List ℕ). 32 ∷ t) (first_of most n (omega (arith, few)))

pub padding : (n : ℕ) → n ≤ 20 → take n (spaces 20) ≡ spaces n
padding n few = first_of 20 n few
