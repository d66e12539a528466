-- What a search finds among rows in the order of their keys.
use Rattle.std.proofs.Common.{
  zero,
  suc,
  ◌≡◌,
  ℕ,
  ◌+◌,
  ◌<◌,
  ◌≤◌,
  Bool,
  true,
  false,
  not,
  cond,
  ltb,
  List,
  [],
  ◌∷◌,
  Some,
  None,
  get_or,
  length,
  refl,
  ap,
  arith,
  sym,
  subst,
  ◌∙◌,
  Result,
  Ok,
  Err,
  MatchResult,
  filter,
  Ordering,
}
use Rattle.std.specs.declared.cmp.Ordering.TheVariants.{Less, Equal, Greater}
use Rattle.std.specs.Cmp.{IsTotalOrder}
use Rattle.std.specs.Ordering.{is_lt, is_eq, ordering_index, ordering_reverse}
use Rattle.std.specs.List.{find, insert, position, position_or_len, AllByRecursion}
use Rattle.std.specs.List.Sorted.{IsSearchInRange, IsBinarySearchResult, IsNonDecreasingBy, IsPartitionPoint, IsPartitionedBy, IsSortedBy}
use Rattle.std.proofs.lemmas.List.Sorted.{searchable_from_sorted}
use Rattle.std.proofs.lemmas.List.Sums.{position_or_len_is}
use Rattle.std.proofs.lemmas.Bool.Decides.{nat_tests}
use Rattle.opc_rows.specs.Ordered.{Ascends, IsInKeyOrder, comes_before, put, changed}
use Rattle.opc_rows.proofs.Places.{insert_first}

-- what holds of each element holds at each place
all_at : {A : Type 0} (P : A → Type 0) (xs : List A) (k : ℕ) (d : A) → AllByRecursion P xs → k < length xs → P (get_or xs k d)
all_at P [] k d all within = absurd (omega arith)
all_at P (x ∷ xs) zero d all within = all.0
all_at P (x ∷ xs) (suc k) d all within = all_at P xs k d all.1 (omega arith)

-- an element stands in order to each later one
later : {A : Type 0} (before : A → A → Bool) (xs : List A) (i j : ℕ) (d : A) → Ascends before xs → i < j → j < length xs
    → before (get_or xs i d) (get_or xs j d) ≡ true
later before [] i j d order lt within = absurd (omega arith)
later before (x ∷ xs) i zero d order lt within = absurd (omega arith)
later before (x ∷ xs) zero (suc j) d order lt within = all_at (λ y. before x y ≡ true) xs j d order.0 (omega arith)
later before (x ∷ xs) (suc i) (suc j) d order lt within = later before xs i j d order.1 (omega arith) (omega arith)

-- none is found if the test fails at each place
nowhere : {A : Type 0} (p : A → Bool) (xs : List A) → ((k : ℕ) (d : A) → k < length xs → p (get_or xs k d) ≡ false) → find p xs ≡ None
nowhere p [] fails = refl
nowhere p (x ∷ xs) fails =
    let here : p x ≡ false = fails 0 x (omega arith) in
    rw here (nowhere p xs (λ k d within. fails (suc k) d (omega arith)))

-- no row is dropped or changed if none is found
pub filter_nowhere : {A : Type 0} (p : A → Bool) (xs : List A) → find p xs ≡ None → xs ≡ filter (λ x. not (p x)) xs
filter_nowhere p [] = λ none. refl
filter_nowhere p (x ∷ xs) = elim (p x) as
    (λ b. cond b (Some x) (find p xs) ≡ None → x
    ∷ xs ≡ cond (not b) (x ∷ filter (λ x. not (p x)) xs) (filter (λ x. not (p x)) xs)) [
      | true ↦ λ none. absurd (cc)
      | false ↦ λ none. ap (λ ws. x ∷ ws) (filter_nowhere p xs none)
    ]

pub changed_nowhere : {A : Type 0} (p : A → Bool) (f : A → A) (xs : List A) → find p xs ≡ None → xs ≡ changed p f xs
changed_nowhere p f [] = λ none. refl
changed_nowhere p f (x ∷ xs) = elim (p x) as (λ b. cond b (Some x) (find p xs) ≡ None → x ∷ xs ≡ cond b (f x ∷ xs) (x ∷ changed p f xs)) [
  | true ↦ λ none. absurd (cc)
  | false ↦ λ none. ap (λ ws. x ∷ ws) (changed_nowhere p f xs none)
]

-- an element put after all that it is not before
pub insert_after : {A : Type 0} (before : A → A → Bool) (x : A) (xs : List A) (at : ℕ) → at ≤ length xs
    → IsPartitionPoint (λ y. before x y ≡ false) (λ y. before x y ≡ true) xs at → insert xs at x ≡ put before x xs
insert_after before x xs at within split =
    let first : position_or_len (before x) xs ≡ at =
    position_or_len_is (before x) xs at x within (λ k lt. split.0 k x (omega arith) lt)
    (λ lt. split.1 at x (omega arith) lt) in
    subst (λ (n : ℕ). insert xs n x ≡ put before x xs) first (insert_first before x xs)

less_is : (o : Ordering) → is_lt o ≡ true → o ≡ Less
less_is Less e = refl
less_is Equal e = absurd (cc)
less_is Greater e = absurd (cc)

module _ {K R : Type 0} (cmp : K → K → Ordering) (total : IsTotalOrder cmp) (eq : K → K → Bool)
    (ties : (x y : K) → eq x y ≡ is_eq (cmp x y)) (key_of : R → K) where
  mirrored : (x y : K) → cmp x y ≡ Less → cmp y x ≡ Greater
  mirrored x y e = total.antisymm y x ∙ ap ordering_reverse e

  pub before_on : (x y z : R) → comes_before cmp key_of x y ≡ true → comes_before cmp key_of y z ≡ true → comes_before cmp key_of x z ≡ true
  before_on x y z e f = ap is_lt (total.trans (key_of x) (key_of y) (key_of z) (less_is _ e) (less_is _ f))

  -- of two rows in order one at most has the key
  pub once : (key : K) (x y : R) → eq (key_of x) key ≡ true → comes_before cmp key_of x y ≡ true → eq (key_of y) key ≡ false
  once key x y here after =
      let same : cmp (key_of x) key ≡ Equal = equal_is _ (sym (ties (key_of x) key) ∙ here) in
      let passed : cmp key (key_of y) ≡ Less = sym (total.congr (key_of x) key (key_of y) same) ∙ less_is _ after in
      ties (key_of y) key ∙ ap is_eq (mirrored key (key_of y) passed)
    where
      equal_is : (o : Ordering) → is_eq o ≡ true → o ≡ Equal
      equal_is Less e = absurd (cc)
      equal_is Equal e = refl
      equal_is Greater e = absurd (cc)

  -- the comparisons with a key rise along the rows, as a binary search requires
  comparisons_rise : (xs : List R) (key : K) → IsInKeyOrder cmp key_of xs → IsNonDecreasingBy (λ row. ordering_index (cmp (key_of row) key)) xs
  comparisons_rise xs key order = searchable_from_sorted total key_of xs key sorted
    where
      sorted : IsSortedBy (λ a b. is_lt (cmp (key_of a) (key_of b))) xs
      sorted k d low lt =
          let here : comes_before cmp key_of (get_or xs k d) (get_or xs (k + 1) d) ≡ true =
          later (comes_before cmp key_of) xs k (k + 1) d order (omega arith) lt in
          ap is_lt (mirrored _ _ (less_is _ here))

  -- the row at which a binary search ends is the first of its key, and if it ends at none there is none
  pub searched : (xs : List R) (key : K) (r : Result ℕ ℕ) → IsInKeyOrder cmp key_of xs → IsSearchInRange r (length xs)
      → IsBinarySearchResult (λ row. cmp (key_of row) key) xs r
      → MatchResult r (λ at. position (λ row. eq (key_of row) key) xs ≡ Some at) (λ _. find (λ row. eq (key_of row) key) xs ≡ None)
  searched [] key (Ok at) order within equal = absurd (omega arith)
  searched (x ∷ xs) key (Ok at) order within equal =
      let row = get_or (x ∷ xs) at x in
      let here : cmp (key_of row) key ≡ Equal = equal x in
      let none_before : (k : ℕ) → k < at → eq (key_of (get_or (x ∷ xs) k x)) key ≡ false = λ k lt.
      let below : cmp (key_of (get_or (x ∷ xs) k x)) (key_of row) ≡ Less = less_is _ (later (comes_before cmp key_of) (x ∷ xs) k at x order lt within) in
      let above : cmp key (key_of (get_or (x ∷ xs) k x)) ≡ Greater = sym (total.congr _ _ _ here) ∙ mirrored _ _ below in
      ties _ key ∙ ap is_eq (total.antisymm _ key ∙ ap ordering_reverse above) in
      let first : position_or_len (λ row. eq (key_of row) key) (x ∷ xs) ≡ at =
      position_or_len_is (λ row. eq (key_of row) key) (x ∷ xs) at x (omega arith) none_before
      (λ lt. ties _ key ∙ ap is_eq here) in
      placed _ _ _ first within
    where
      placed : (n i len : ℕ) → n ≡ i → i < len → cond (ltb n len) (Some n) None ≡ Some i
      placed n i len same lt = grind (arith, nat_tests)
  searched xs key (Err at) order within split =
      let cut = split (comparisons_rise xs key order) in
      nowhere (λ row. eq (key_of row) key) xs (λ k d lt. elim (ltb k at) as (λ b. ltb k at ≡ b → eq (key_of (get_or xs k d)) key ≡ false) [
        | true ↦ λ below. ties _ key ∙ ap is_eq (cut.0 k d (omega arith) (grind (arith, nat_tests, below)))
        | false ↦ λ above. ties _ key ∙ ap is_eq (cut.1 k d (grind (arith, nat_tests, above)) lt)
      ] refl)

  -- the rows that a key is not less than come first
  pub parted_by_key : (xs : List R) (key : K) → IsInKeyOrder cmp key_of xs → IsPartitionedBy (λ row. not (is_lt (cmp key (key_of row)))) xs
  parted_by_key xs key order i j d le within passes =
      elim (is_lt (cmp key (key_of (get_or xs i d)))) as (λ b. is_lt (cmp key (key_of (get_or xs i d))) ≡ b → not b ≡ true) [
        | false ↦ λ here. refl
        | true ↦ λ here. elim (ltb i j) as (λ b. ltb i j ≡ b → false ≡ true) [
          | true ↦ λ lt.
              let after : cmp (key_of (get_or xs i d)) (key_of (get_or xs j d)) ≡ Less =
              less_is _ (later (comes_before cmp key_of) xs i j d order (grind (arith, nat_tests, lt)) within) in
              let there : is_lt (cmp key (key_of (get_or xs j d))) ≡ true = ap is_lt (total.trans key _ _ (less_is _ here) after) in
              rw there at passes
          | false ↦ λ same. let at : i ≡ j = grind (arith, nat_tests, same) in
              let there : is_lt (cmp key (key_of (get_or xs j d))) ≡ true = rw (← at) here in
              rw there at passes
        ] refl
      ] refl

  -- the place from which a key is less than the rows
  pub cut_by_key : (xs : List R) (key : K) (at : ℕ)
      → IsPartitionPoint (λ row. not (is_lt (cmp key (key_of row))) ≡ true)
      (λ row. not (is_lt (cmp key (key_of row))) ≡ false) xs at
      → IsPartitionPoint (λ row. is_lt (cmp key (key_of row)) ≡ false) (λ row. is_lt (cmp key (key_of row)) ≡ true) xs at
  cut_by_key xs key at split = (λ k d low lt. fails _ (split.0 k d low lt), λ k d le lt. passes _ (split.1 k d le lt))
    where
      fails : (b : Bool) → not b ≡ true → b ≡ false
      fails true e = absurd (cc)
      fails false e = refl

      passes : (b : Bool) → not b ≡ false → b ≡ true
      passes true e = refl
      passes false e = absurd (cc)
