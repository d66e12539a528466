-- How the rows of a table give the members that they represent: decoded, and sorted by their keys, they are the list.
use Rattle.std.proofs.Common.{
  ◌≡◌,
  ℕ,
  ◌+◌,
  List,
  [],
  ◌∷◌,
  map,
  filter,
  drop,
  Bool,
  false,
  refl,
  sym,
  ap,
  ap₂,
  subst,
  ◌∙◌,
  IsPermutation,
  IsSorted,
  Ordering,
  Less,
  Equal,
  Greater,
  is_eq,
  is_lt,
  zero,
  suc,
  arith,
  add-one,
}
use Rattle.std.specs.Cmp.{IsTotalOrder}
use Rattle.std.specs.Ordering.{ordering_reverse}
use Rattle.std.proofs.lemmas.List.Sorted.{
  IsPermutation-sym,
  IsPermutation-trans,
  IsPermutation-map,
  IsPermutation-refl,
  IsPermutation-cons,
  IsPermutation-middle,
}
use Rattle.sqlite.specs.Order.{Row}
use Rattle.sqlite_keyed.specs.Lists.{sort_by}
use Rattle.sqlite_keyed.proofs.ListLemmas.{along_permutation, all_weaker, map-map, map_back, IsPermutation-filter}
use Rattle.sqlite_keyed.proofs.SortLemmas.{HasNoTies, sorted_is-sort_by}
use Rattle.opc_store_sql.specs.Order.{Rises}
use Rattle.opc_store_sql.specs.Rows.{HasRows, numbered_row, numbered_rows}
use Rattle.opc_store_sql.proofs.Rows.{all_along}

module _ {X : Type 0} (cmp : X → X → Ordering) (total : IsTotalOrder cmp) where
  rises_sorted : (xs : List X) → Rises cmp xs → IsSorted cmp xs
  rises_sorted [] up = λ k d p q. absurd (omega arith)
  rises_sorted (x ∷ []) up = λ k d p q. absurd (omega arith)
  rises_sorted (x ∷ y ∷ xs) up = go (rises_sorted (y ∷ xs) up.1)
    where
      go : IsSorted cmp (y ∷ xs) → IsSorted cmp (x ∷ y ∷ xs)
      go more zero d p q = ap is_lt (total.antisymm y x ∙ ap ordering_reverse up.0.0)
      go more (suc k) d p q = rw add-one (rw add-one at (more k d (omega arith) (omega arith)))

  pub no_ties : (xs : List X) → Rises cmp xs → HasNoTies cmp total xs
  no_ties [] up = tt
  no_ties (x ∷ xs) up = (all_weaker _ _ (λ y less. ap is_eq less) xs up.0, no_ties xs up.1)

  turned : (o : Ordering) → is_eq (ordering_reverse o) ≡ is_eq o
  turned Less = refl
  turned Equal = refl
  turned Greater = refl

  apart_back : (x y : X) → is_eq (cmp x y) ≡ false → is_eq (cmp y x) ≡ false
  apart_back x y h = ap is_eq (total.antisymm y x) ∙ (turned (cmp x y) ∙ h)

  abbrev pub KeepsApart : List X → List X → Type 0
  KeepsApart xs ys = IsPermutation xs ys × (HasNoTies cmp total xs → HasNoTies cmp total ys)

  turn : (x y : X) (xs : List X) → KeepsApart (x ∷ y ∷ xs) (y ∷ x ∷ xs)
  turn x y xs = (swapped, λ h. ((apart_back x y h.0.0, h.1.0), (h.0.1, h.1.1)))
    where
      swapped : IsPermutation (x ∷ y ∷ xs) (y ∷ x ∷ xs)
      swapped = IsPermutation-middle (x ∷ []) y xs

  pub apart_along : (xs ys : List X) → IsPermutation xs ys → KeepsApart xs ys
  apart_along = along_permutation KeepsApart
      (λ xs. (IsPermutation-refl xs, λ h. h))
      (λ x xs ys more. (IsPermutation-cons x xs ys more.0, λ h. (all_along _ xs ys more.0 h.0, more.1 h.1)))
      turn
      (λ xs ys zs p q. (IsPermutation-trans xs ys zs p.0 q.0, λ h. q.1 (p.1 h)))

  -- a list in the order of its keys is each list of its members, sorted
  pub in_order : (xs ys : List X) → Rises cmp xs → IsPermutation xs ys → sort_by cmp ys ≡ xs
  in_order xs ys up same =
      sym (sorted_is-sort_by cmp total ys xs ((apart_along xs ys same).1 (no_ties xs up)) (IsPermutation-sym xs ys same)
      (rises_sorted xs up))

  -- the rows of a table, decoded and sorted, are the members that its values represent
  pub decoded_as : (back : Row → X) (have : List Row) (xs : List X) (rows : List Row) → Rises cmp xs
      → map back have ≡ xs → HasRows have rows → sort_by cmp (map (λ (r : Row). back (drop 1 r)) rows) ≡ xs
  decoded_as back have xs rows up returns has =
      let same : IsPermutation (map back have) (map (λ (r : Row). back (drop 1 r)) rows) =
      subst (IsPermutation (map back have)) (map-map back (λ (r : Row). drop 1 r) rows)
      (IsPermutation-map back _ _ has.each) in
      in_order xs _ up (subst (λ (l : List X). IsPermutation l (map (λ (r : Row). back (drop 1 r)) rows)) returns same)

  module _ (row : X → Row) (back : Row → X) (reads : (x : X) → back (row x) ≡ x) where
    -- what a table with one row for each member holds
    abbrev pub decoded : List Row → List X
    decoded rows = sort_by cmp (map (λ (r : Row). back (drop 1 r)) rows)

    pub decoded_is : (xs : List X) (rows : List Row) → Rises cmp xs → HasRows (map row xs) rows → decoded rows ≡ xs
    decoded_is xs rows up has = decoded_as back (map row xs) xs rows up (map_back row back reads xs) has

    -- and what those of its rows that pass a test hold
    pub decoded_part : (q : Row → Bool) (have : List Row) (xs : List X) (rows : List Row) → Rises cmp xs → filter q have ≡ map row xs → HasRows have rows
        → sort_by cmp (map back (filter q (map (λ (r : Row). drop 1 r) rows))) ≡ xs
    decoded_part q have xs rows up mine has =
        let picked : IsPermutation (map row xs) (filter q (map (λ (r : Row). drop 1 r) rows)) =
        subst (λ (l : List Row). IsPermutation l (filter q (map (λ (r : Row). drop 1 r) rows))) mine
        (IsPermutation-filter q _ _ has.each) in
        let moved = subst (λ (l : List X). IsPermutation l (map back (filter q (map (λ (r : Row). drop 1 r) rows))))
        (map_back row back reads xs) (IsPermutation-map back _ _ picked) in
        in_order xs _ up moved

-- a table whose key is the place
pub places_back : {X : Type 0} (values : X → Row) (back : Row → X)
    → ((n : ℕ) (x : X) → back (numbered_row values n x) ≡ x) → (n : ℕ) (xs : List X)
    → map back (numbered_rows values n xs) ≡ xs
places_back values back reads n [] = refl
places_back values back reads n (x ∷ xs) = ap₂ ◌∷◌ (reads n x) (places_back values back reads (n + 1) xs)
