-- Rows that are decoded one after another.
use Rattle.std.proofs.Common.{
  ◌≡◌,
  ℕ,
  zero,
  suc,
  ◌+◌,
  ◌<◌,
  List,
  [],
  ◌∷◌,
  ◌++◌,
  map,
  take,
  filter,
  find,
  length,
  get_or,
  slice_get,
  option_map,
  Some,
  None,
  Bool,
  refl,
  sym,
  ap,
  ap₂,
  subst,
  ◌∙◌,
  arith,
  add-one,
}
use Rattle.std.proofs.lemmas.List.{map-append, take-map}
use Rattle.sqlite_keyed.proofs.ListLemmas.{slice_get-filter}

module _ {X Y : Type 0} (row : X → Y) where
  pub record IsAt (xs : List X) (i : ℕ) (y : Y) : Type 0 where
    pub x : X
    pub is : y ≡ row x
    pub more : take (suc i) xs ≡ take i xs ++ x ∷ []

  pub at : (xs : List X) (i : ℕ) (d : Y) → i < length (map row xs) → IsAt xs i (get_or (map row xs) i d)
  at [] i d low = absurd (omega arith)
  at (x ∷ xs) zero d low = record { x = x; is = refl; more = refl }
  at (x ∷ xs) (suc i) d low = let it = at xs i d (omega arith) in record { x = it.x; is = it.is; more = ap (λ l. x ∷ l) it.more }

  module _ {V : Type 0} (of : V → X) where
    pub decoded_more : (xs : List X) (rows : List Y) (vs : List V) (i : ℕ) (y : Y) (v : V) → rows ≡ map row xs
        → i < length rows → y ≡ get_or rows i y → ((x : X) → y ≡ row x → of v ≡ x)
        → map of vs ≡ take i xs → map of (vs ++ v ∷ []) ≡ take (i + 1) xs
    decoded_more xs rows vs i y v are low is decodes so_far =
        let it = at xs i y (subst (λ (l : List Y). i < length l) are low) in
        let here : y ≡ row it.x = is ∙ (ap (λ (l : List Y). get_or l i y) are ∙ it.is) in
        map-append of vs (v ∷ []) ∙ (ap₂ (λ a b. a ++ b ∷ []) so_far (decodes it.x here) ∙ (sym it.more ∙ ap (λ k. take k xs) (sym (add-one i))))

    pub first_found : (p : X → Bool) (xs : List X) (rows : List Y) (y : Y) (v : V) → rows ≡ map row (filter p xs)
        → slice_get rows 0 ≡ Some y → ((x : X) → y ≡ row x → of v ≡ x) → Some (of v) ≡ find p xs
    first_found p xs rows y v are first decodes = go (filter p xs) (sym (ap (λ l. slice_get l 0) are) ∙ first) ∙ slice_get-filter p xs
      where
        go : (l : List X) → slice_get (map row l) 0 ≡ Some y → Some (of v) ≡ slice_get l 0
        go [] h = absurd cc
        go (x ∷ l) h = let e : y ≡ row x = cc in ap (λ z. Some z) (decodes x e)

    pub none_found : (p : X → Bool) (xs : List X) (rows : List Y) → rows ≡ map row (filter p xs) → slice_get rows 0 ≡ None → None ≡ find p xs
    none_found p xs rows are first = go (filter p xs) (sym (ap (λ l. slice_get l 0) are) ∙ first) ∙ slice_get-filter p xs
      where
        go : (l : List X) → slice_get (map row l) 0 ≡ None → None ≡ slice_get l 0
        go [] h = refl
        go (x ∷ l) h = absurd cc

-- what is read so far is what was kept, up to here
pub more_taken : {X Y : Type 0} (row : X → Y) (xs : List X) (rows : List Y) (vs : List X) (i : ℕ) (y : Y) (v : X)
    → rows ≡ map row xs → i < length rows → y ≡ get_or rows i y → ((x : X) → y ≡ row x → v ≡ x) → vs ≡ take i xs → vs
    ++ v ∷ [] ≡ take (i + 1) xs
more_taken row xs rows vs i y v are low is decodes so_far =
    let it = at row xs i y (subst (λ (l : List _). i < length l) are low) in
    let here : y ≡ row it.x = is ∙ (ap (λ l. get_or l i y) are ∙ it.is) in
    ap₂ (λ a b. a ++ b ∷ []) so_far (decodes it.x here) ∙ (sym it.more ∙ ap (λ k. take k xs) (sym (add-one i)))

module _ {X Y : Type 0} (row : X → Y) (p : X → Bool) where
  -- the member of the first row
  pub first_is : (xs : List X) (rows : List Y) (y : Y) → rows ≡ map row (filter p xs) → slice_get rows 0 ≡ Some y → (x : X) × (y ≡ row x) × (Some x ≡ find p xs)
  first_is xs rows y are first = let it = go (filter p xs) (sym (ap (λ l. slice_get l 0) are) ∙ first) in (it.0, it.1, it.2 ∙ slice_get-filter p xs)
    where
      go : (l : List X) → slice_get (map row l) 0 ≡ Some y → (x : X) × (y ≡ row x) × (Some x ≡ slice_get l 0)
      go [] h = absurd cc
      go (x ∷ l) h = let same : y ≡ row x = cc in (x, same, refl)

  -- what was read of it
  pub first_returned : {V : Type 0} (of : X → V) (xs : List X) (rows : List Y) (y : Y) (v : V)
      → rows ≡ map row (filter p xs) → slice_get rows 0 ≡ Some y → ((x : X) → y ≡ row x → v ≡ of x)
      → Some v ≡ option_map of (find p xs)
  first_returned of xs rows y v are first reads = let it = first_is xs rows y are first in ap (λ z. Some z) (reads it.0 it.1) ∙ ap (option_map of) it.2

  pub none_returned : {V : Type 0} (of : X → V) (xs : List X) (rows : List Y) → rows ≡ map row (filter p xs)
      → slice_get rows 0 ≡ None → None ≡ option_map of (find p xs)
  none_returned of xs rows are first = ap (option_map of) (none_found row (λ x. x) p xs rows are first)

-- what was read of the rows so far is that of the members, up to here
pub more_returned : {X Y V : Type 0} (row : X → Y) (of : X → V) (xs : List X) (rows : List Y) (vs : List V) (i : ℕ) (y : Y)
    (v : V) → rows ≡ map row xs → i < length rows → y ≡ get_or rows i y → ((x : X) → y ≡ row x → v ≡ of x)
    → vs ≡ take i (map of xs) → vs ++ v ∷ [] ≡ take (i + 1) (map of xs)
more_returned {X} {Y} {V} row of xs rows vs i y v are low is reads so_far =
    let it = at row xs i y (subst (λ (l : List Y). i < length l) are low) in
    let here : y ≡ row it.x = is ∙ (ap (λ (l : List Y). get_or l i y) are ∙ it.is) in
    let grown : map of (take i xs) ++ of it.x ∷ [] ≡ map of (take (suc i) xs) = sym (map-append of (take i xs) (it.x ∷ [])) ∙ ap (map of) (sym it.more) in
    ap₂ (λ (a : List V) (b : V). a ++ b ∷ []) (so_far ∙ take-map of i xs) (reads it.x here)
    ∙ (grown ∙ (sym (take-map of (suc i) xs) ∙ ap (λ k. take k (map of xs)) (sym (add-one i))))
