-- What a change of each row makes of a list, element by element.
use Rattle.std.proofs.Common.{zero, suc, ◌≡◌, ℕ, ◌<◌, ◌≤◌, List, [], ◌∷◌, get_or, length, map, set, refl, ap₂, arith, sym, subst}
use Rattle.opc_rows.specs.Ordered.{IsChangedAtEach}

-- the first elements, this many, have become what they may become, and the others are as they were
abbrev pub IsChangedUpTo : {A : Type 0} → (A → A → Type 0) → ℕ → List A → List A → Type 0
IsChangedUpTo becomes zero xs ys = ys ≡ xs
IsChangedUpTo becomes (suc n) [] ys = ys ≡ []
IsChangedUpTo becomes (suc n) (x ∷ xs) [] = ⊥
IsChangedUpTo becomes (suc n) (x ∷ xs) (y ∷ ys) = becomes x y × IsChangedUpTo becomes n xs ys

module _ {A : Type 0} (becomes : A → A → Type 0) where
  pub one_further : (n : ℕ) (xs ys : List A) (d z : A) → n < length xs → IsChangedUpTo becomes n xs ys
      → becomes (get_or ys n d) z → IsChangedUpTo becomes (suc n) xs (set ys n z)
  one_further n [] ys d z within changed made = absurd (omega arith)
  one_further zero (x ∷ xs) ys d z within changed made =
      subst (λ (l : List A). IsChangedUpTo becomes 1 (x ∷ xs) (set l zero z)) (sym changed)
      (subst (λ (l : List A). becomes (get_or l zero d) z) changed made, refl)
  one_further (suc n) (x ∷ xs) [] d z within changed made = absurd changed
  one_further (suc n) (x ∷ xs) (y ∷ ys) d z within changed made = (changed.0, one_further n xs ys d z (omega arith) changed.1 made)

  pub at_the_end : (n : ℕ) (xs ys : List A) → length xs ≤ n → IsChangedUpTo becomes n xs ys → IsChangedAtEach becomes xs ys
  at_the_end zero [] ys within changed = subst (λ (l : List A). IsChangedAtEach becomes [] l) (sym changed) tt
  at_the_end zero (x ∷ xs) ys within changed = absurd (omega arith)
  at_the_end (suc n) [] ys within changed = subst (λ (l : List A). IsChangedAtEach becomes [] l) (sym changed) tt
  at_the_end (suc n) (x ∷ xs) [] within changed = absurd changed
  at_the_end (suc n) (x ∷ xs) (y ∷ ys) within changed = (changed.0, at_the_end n xs ys (omega arith) changed.1)

  pub each_computed : (f : A → A) → ((x y : A) → becomes x y → y ≡ f x) → (xs ys : List A) → IsChangedAtEach becomes xs ys → ys ≡ map f xs
  each_computed f is [] [] changed = refl
  each_computed f is [] (y ∷ ys) changed = absurd changed
  each_computed f is (x ∷ xs) [] changed = absurd changed
  each_computed f is (x ∷ xs) (y ∷ ys) changed = ap₂ (λ v l. v ∷ l) (is x y changed.0) (each_computed f is xs ys changed.1)
