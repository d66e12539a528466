-- A list of those that pass a test, as a loop reaches one more.
use Rattle.std.proofs.Common.{
  ◌≡◌,
  ◌<◌,
  ◌+◌,
  ℕ,
  Bool,
  true,
  false,
  cond,
  List,
  [],
  ◌∷◌,
  ◌++◌,
  filter,
  map,
  take,
  get_or,
  length,
  sym,
  ap,
  ap₂,
  ◌∙◌,
  append_assoc,
}
use Rattle.std.proofs.lemmas.List.{take_more, append-nil, map-append}
use Rattle.std.proofs.lemmas.List.Elements.{filter-append}

module _ {X E : Type 0} (p : X → Bool) (f : X → E) (start now : List E) (xs : List X) (i : ℕ) (x : X)
    (low : i < length xs) (is : x ≡ get_or xs i x) (h : now ≡ start ++ map f (filter p (take i xs))) where
  grown : (b : Bool) → p x ≡ b → map f (filter p (take (i + 1) xs)) ≡ map f (filter p (take i xs)) ++ map f (cond b (x ∷ []) [])
  grown b px =
      ap (λ ys. map f (filter p ys)) (take_more xs i x low ∙ ap (λ y. take i xs ++ y ∷ []) (sym is))
      ∙ ap (map f) (filter-append p (take i xs) (x ∷ []))
      ∙ map-append f (filter p (take i xs)) (filter p (x ∷ []))
      ∙ ap (λ z. map f (filter p (take i xs)) ++ map f (cond z (x ∷ []) [])) px

  pub passed : p x ≡ true → (e : E) → e ≡ f x → now ++ e ∷ [] ≡ start ++ map f (filter p (take (i + 1) xs))
  passed px e e_is = ap₂ (λ l z. l ++ z ∷ []) h e_is ∙ append_assoc start (map f (filter p (take i xs))) (f x ∷ []) ∙ ap (λ l. start ++ l) (sym (grown true px))

  pub failed : p x ≡ false → now ≡ start ++ map f (filter p (take (i + 1) xs))
  failed px = h ∙ ap (λ l. start ++ l) (sym (grown false px ∙ append-nil (map f (filter p (take i xs)))))
