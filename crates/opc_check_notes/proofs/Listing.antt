-- What is looked up in a sorted list.
use Rattle.std.proofs.Common.{
  zero,
  suc,
  ◌≡◌,
  ℕ,
  ◌+◌,
  ◌-◌,
  ◌<◌,
  ◌≤◌,
  Bool,
  true,
  false,
  not,
  cond,
  ◌&&◌,
  ◌||◌,
  ◌⊎◌,
  inl,
  inr,
  List,
  [],
  ◌∷◌,
  Option,
  Some,
  None,
  get_or,
  length,
  take,
  drop,
  filter,
  refl,
  ap,
  arith,
  sym,
  ◌∙◌,
  Result,
  Ok,
  Err,
  Ordering,
}
use Rattle.std.specs.Prelude.{filter_map, is_ok}
use Rattle.std.specs.declared.cmp.Ordering.TheVariants.{Less, Equal, Greater}
use Rattle.std.specs.Cmp.{IsTotalOrder}
use Rattle.std.specs.List.{AllWithin, cons_option, list_any}
use Rattle.std.specs.List.Sorted.{
  IsBinarySearchResult,
  IsPartitionPoint,
  IsPartitionedBy,
  IsPermutation,
  IsSearchInRange,
  IsSorted,
  IsSortedByKey,
  IsStableByKey,
}
use Rattle.std.specs.Ordering.{is_eq, is_le, is_lt, ordering_index, ordering_reverse}
use Rattle.std.specs.Str.{bytes_eq}
use Rattle.std.proofs.lemmas.Bool.{cases_lt}
use Rattle.std.proofs.lemmas.List.Elements.{filter_agree}
use Rattle.std.proofs.lemmas.List.Folds.{list_any_at, list_any_none}
use Rattle.std.proofs.lemmas.List.{get_or_read}
use Rattle.std.proofs.lemmas.List.Sorted.{length_permutation, list_any-IsPermutation, searchable_from_sorted}
use Rattle.std.proofs.lemmas.Cmp.{nat_list_cmp_total}
use Rattle.std.proofs.lemmas.Map.Text.{is_eq-slice_cmp}
use Rattle.opc_policy_members.specs.Members.{name_cmp}
use Rattle.opc_check_notes.specs.SortedPairs.{at_key, from_to}
use Rattle.opc_check_notes.specs.Named.{is_name}

and_false : (a : Bool) → (a && false) ≡ false
and_false true = refl
and_false false = refl

-- ---- what a stable sort by keys leaves of a key

pub no_items : {A : Type 0} (xs : List A) → length xs ≡ 0 → xs ≡ []
no_items [] none = refl
no_items (x ∷ xs) none = absurd (omega (arith, none))

module _ {K : Type 0} {R : K → K → Ordering} (o : IsTotalOrder R) where
  tied : (key other : K) → (not (is_lt (R key other)) && not (is_lt (R other key))) ≡ is_eq (R other key)
  tied key other = ap (λ r. not (is_lt r) && not (is_lt (R other key))) (o.antisymm key other) ∙ go (R other key)
    where
      go : (r : Ordering) → (not (is_lt (ordering_reverse r)) && not (is_lt r)) ≡ is_eq r
      go Less = refl
      go Equal = refl
      go Greater = refl

  module _ {V : Type 0} where
    pub stays_at : (xs ys : List (K × V)) → IsPermutation xs ys → IsStableByKey (λ (p : K × V). p.0) R xs ys
        → (key : K) → at_key R key ys ≡ at_key R key xs
    stays_at [] ys permutation stable key = ap (at_key R key) (no_items ys (length_permutation [] ys permutation))
    stays_at (x ∷ xs) ys permutation stable key =
        sym (agrees ys) ∙ stable (key, x.1) ∙ agrees (x ∷ xs)
      where
        agrees : (zs : List (K × V))
            → filter (λ (p : K × V). not (is_lt (R key p.0)) && not (is_lt (R p.0 key))) zs ≡ at_key R key zs
        agrees zs = filter_agree _ _ (λ (p : K × V). tied key p.0) zs

-- ---- the part of a list that passes a test, between two that fail

between : {A : Type 0} (p : A → Bool) (xs : List A) (a n : ℕ) → a + n ≤ length xs
    → AllWithin (λ x. p x ≡ false) xs 0 a → AllWithin (λ x. p x ≡ true) xs a (a + n)
    → AllWithin (λ x. p x ≡ false) xs (a + n) (length xs) → take n (drop a xs) ≡ filter p xs
between p [] zero zero within before here after = refl
between p [] zero (suc n) within before here after = absurd (omega (arith, within))
between p [] (suc a) n within before here after = absurd (omega (arith, within))
between p (x ∷ xs) zero zero within before here after =
    between p xs zero zero (omega arith) (λ k d low high. absurd (omega (arith, high)))
    (λ k d low high. absurd (omega (arith, high))) (λ k d low high. after (suc k) d (omega arith) (omega (arith, high)))
    ∙ sym (ap (λ t. cond t (x ∷ filter p xs) (filter p xs)) (after 0 x (omega arith) (omega arith)))
between p (x ∷ xs) zero (suc n) within before here after =
    ap (λ l. x ∷ l)
    (between p xs zero n (omega (arith, within)) (λ k d low high. absurd (omega (arith, high)))
    (λ k d low high. here (suc k) d (omega arith) (omega (arith, high)))
    (λ k d low high. after (suc k) d (omega (arith, low)) (omega (arith, high))))
    ∙ sym (ap (λ t. cond t (x ∷ filter p xs) (filter p xs)) (here 0 x (omega arith) (omega arith)))
between p (x ∷ xs) (suc a) n within before here after =
    between p xs a n (omega (arith, within)) (λ k d low high. before (suc k) d (omega arith) (omega (arith, high)))
    (λ k d low high. here (suc k) d (omega (arith, low)) (omega (arith, high)))
    (λ k d low high. after (suc k) d (omega (arith, low)) (omega (arith, high)))
    ∙ sym (ap (λ t. cond t (x ∷ filter p xs) (filter p xs)) (before 0 x (omega arith) (omega arith)))

-- ---- the pairs of a key in a sorted list

less_down : (r s : Ordering) → ordering_index r ≤ ordering_index s → is_lt s ≡ true → is_lt r ≡ true
less_down Less s below h = refl
less_down Equal Less below h = absurd (omega (arith, below))
less_down Equal Equal below h = absurd (cc)
less_down Equal Greater below h = absurd (cc)
less_down Greater Less below h = absurd (omega (arith, below))
less_down Greater Equal below h = absurd (cc)
less_down Greater Greater below h = absurd (cc)

most_down : (r s : Ordering) → ordering_index r ≤ ordering_index s → is_le s ≡ true → is_le r ≡ true
most_down Less s below h = refl
most_down Equal s below h = refl
most_down Greater Less below h = absurd (omega (arith, below))
most_down Greater Equal below h = absurd (omega (arith, below))
most_down Greater Greater below h = absurd (cc)

less_unlike : (r : Ordering) → is_lt r ≡ true → is_eq r ≡ false
less_unlike Less h = refl
less_unlike Equal h = absurd (cc)
less_unlike Greater h = absurd (cc)

neither : (r : Ordering) → is_lt r ≡ false → is_le r ≡ true → is_eq r ≡ true
neither Less h most = absurd (cc)
neither Equal h most = refl
neither Greater h most = absurd (cc)

more_unlike : (r : Ordering) → is_le r ≡ false → is_eq r ≡ false
more_unlike Less h = absurd (cc)
more_unlike Equal h = absurd (cc)
more_unlike Greater h = refl

not_both : (r : Ordering) → is_lt r ≡ true → is_le r ≡ false → ⊥
not_both Less h most = cc
not_both Equal h most = cc
not_both Greater h most = cc

module _ {K V : Type 0} {R : K → K → Ordering} (o : IsTotalOrder R) (xs : List (K × V)) (key : K)
    (up : IsSortedByKey (λ (p : K × V). p.0) R xs) where
  pub parted_less : IsPartitionedBy (λ (p : K × V). is_lt (R p.0 key)) xs
  parted_less i j d low high =
      less_down (R (get_or xs i d).0 key) (R (get_or xs j d).0 key)
      (searchable_from_sorted o (λ (p : K × V). p.0) xs key up i j d low high)

  pub parted_most : IsPartitionedBy (λ (p : K × V). is_le (R p.0 key)) xs
  parted_most i j d low high =
      most_down (R (get_or xs i d).0 key) (R (get_or xs j d).0 key)
      (searchable_from_sorted o (λ (p : K × V). p.0) xs key up i j d low high)

abbrev Parts : {A : Type 0} → (A → Bool) → List A → ℕ → Type 0
Parts p xs i = IsPartitionPoint (λ x. p x ≡ true) (λ x. p x ≡ false) xs i

pub in_turn : {K V : Type 0} (R : K → K → Ordering) (key : K) (xs : List (K × V)) (a b : ℕ) → a ≤ length xs → b ≤ length xs
    → Parts (λ (p : K × V). is_lt (R p.0 key)) xs a → Parts (λ (p : K × V). is_le (R p.0 key)) xs b → a ≤ b
in_turn R key [] a b within inside less most = omega (arith, within)
in_turn R key (x ∷ xs) a b within inside less most = go (cases_lt b a)
  where
    go : (b < a) ⊎ (a ≤ b) → a ≤ b
    go (inr up) = up
    go (inl down) =
        absurd (not_both (R (get_or (x ∷ xs) b x).0 key) (less.0 b x (omega arith) down)
        (most.1 b x (omega arith) (omega (arith, down, within))))

pub found_at : {K V : Type 0} (R : K → K → Ordering) (key : K) (xs : List (K × V)) (a b : ℕ) → a ≤ length xs → b ≤ length xs
    → Parts (λ (p : K × V). is_lt (R p.0 key)) xs a → Parts (λ (p : K × V). is_le (R p.0 key)) xs b
    → take (b - a) (drop a xs) ≡ at_key R key xs
found_at {K} {V} R key xs a b within inside less most =
    let up = in_turn R key xs a b within inside less most in
    between (λ (p : K × V). is_eq (R p.0 key)) xs a (b - a) (omega (arith, up, inside))
    (λ k d low high. less_unlike _ (less.0 k d low high))
    (λ k d low high. neither _ (less.1 k d low (omega (arith, up, high, inside))) (most.0 k d (omega arith) (omega (arith, up, high))))
    (λ k d low high. more_unlike _ (most.1 k d (omega (arith, up, low)) high))

-- ---- the pairs from one key up to another

module _ {K V : Type 0} (R : K → K → Ordering) (from to : K) (xs : List (K × V)) (a b : ℕ) (within : a ≤ length xs)
    (inside : b ≤ length xs) (low : Parts (λ (p : K × V). is_lt (R p.0 from)) xs a)
    (high : Parts (λ (p : K × V). is_lt (R p.0 to)) xs b) where
  is_from_to : K × V → Bool
  is_from_to p = not (is_lt (R p.0 from)) && is_lt (R p.0 to)

  too_low : (k : ℕ) (d : K × V) → k < a → is_from_to (get_or xs k d) ≡ false
  unfolding is_from_to
  too_low k d here = ap (λ t. not t && is_lt (R (get_or xs k d).0 to)) (low.0 k d (omega arith) here)

  too_high : (k : ℕ) (d : K × V) → b ≤ k → k < length xs → is_from_to (get_or xs k d) ≡ false
  unfolding is_from_to
  too_high k d here end = ap (λ t. not (is_lt (R (get_or xs k d).0 from)) && t) (high.1 k d here end) ∙ and_false _

  right : (k : ℕ) (d : K × V) → a ≤ k → k < b → is_from_to (get_or xs k d) ≡ true
  unfolding is_from_to
  right k d here end =
      ap (λ t. not t && is_lt (R (get_or xs k d).0 to)) (low.1 k d here (omega (arith, end, inside))) ∙ high.0 k d (omega arith) end

  pub found_from_to : a < b → take (b - a) (drop a xs) ≡ from_to R from to xs
  unfolding is_from_to
  found_from_to up =
      between is_from_to xs a (b - a) (omega (arith, up, inside)) (λ k d start end. too_low k d end)
      (λ k d start end. right k d start (omega (arith, up, end))) (λ k d start end. too_high k d (omega (arith, up, start)) end)

-- none, if all before the second key are below the first
pub none_from_to : {K V : Type 0} (R : K → K → Ordering) (from to : K) (xs : List (K × V)) (b : ℕ)
    → Parts (λ (p : K × V). is_lt (R p.0 to)) xs b
    → ((k : ℕ) (d : K × V) → k < b → is_lt (R (get_or xs k d).0 from) ≡ true) → take 0 xs ≡ from_to R from to xs
none_from_to {K} {V} R from to xs b high low =
    between (λ (p : K × V). not (is_lt (R p.0 from)) && is_lt (R p.0 to)) xs 0 0 (omega arith)
    (λ k d start end. absurd (omega (arith, end))) (λ k d start end. absurd (omega (arith, end)))
    (λ k d start end. go k d end (cases_lt k b))
  where
    go : (k : ℕ) (d : K × V) → k < length xs → (k < b) ⊎ (b ≤ k)
        → (not (is_lt (R (get_or xs k d).0 from)) && is_lt (R (get_or xs k d).0 to)) ≡ false
    go k d end (inl here) = ap (λ t. not t && is_lt (R (get_or xs k d).0 to)) (low k d here)
    go k d end (inr here) = ap (λ t. not (is_lt (R (get_or xs k d).0 from)) && t) (high.1 k d here end) ∙ and_false _

-- of the last of the first pairs, as it is read
pub read_last : {K V : Type 0} (R : K → K → Ordering) (from : K) (xs : List (K × V)) (b : ℕ) (last : K × V) (v : Bool)
    → last ≡ get_or xs (b - 1) last → is_lt (R (get_or xs (b - 1) last).0 from) ≡ v → is_lt (R last.0 from) ≡ v
read_last {K} {V} R from xs b last v is h = ap (λ (p : K × V). is_lt (R p.0 from)) is ∙ h

-- and they are, if the last of them is
pub all_below : {K V : Type 0} {R : K → K → Ordering} (o : IsTotalOrder R) (from : K) (xs : List (K × V)) (b : ℕ) (last : K × V)
    → IsSortedByKey (λ (p : K × V). p.0) R xs → 0 < b → b ≤ length xs → last ≡ get_or xs (b - 1) last
    → is_lt (R last.0 from) ≡ true → (k : ℕ) (d : K × V) → k < b → is_lt (R (get_or xs k d).0 from) ≡ true
all_below {K} {V} {R} o from xs b last up some inside is h k d here =
    parted_less o xs from up k (b - 1) d (omega (arith, here, some)) (omega (arith, some, inside))
    (ap (λ (p : K × V). is_lt (R p.0 from)) (sym (get_or_read xs (b - 1) last (omega (arith, some, inside)) is d)) ∙ h)

-- and some of them start below, if the last is not
pub starts_below : {K V : Type 0} (R : K → K → Ordering) (from : K) (xs : List (K × V)) (a b : ℕ) (last : K × V)
    → Parts (λ (p : K × V). is_lt (R p.0 from)) xs a → 0 < b → last ≡ get_or xs (b - 1) last → is_lt (R last.0 from) ≡ false → a < b
starts_below {K} {V} R from xs a b last low some is h = go (cases_lt a b)
  where
    go : (a < b) ⊎ (b ≤ a) → a < b
    go (inl here) = here
    go (inr past) =
        absurd (let below : is_lt (R (get_or xs (b - 1) last).0 from) ≡ true = low.0 (b - 1) last (omega arith) (omega (arith, some, past)) in
        let bad : true ≡ false = sym below ∙ ap (λ (p : K × V). is_lt (R p.0 from)) (sym is) ∙ h in cc)

-- ---- names

any_named : {A : Type 0} (f : A → Option (List ℕ)) (name : List ℕ) (xs : List A)
    → list_any (λ (n : List ℕ). bytes_eq n name) (filter_map f xs) ≡ list_any (λ x. is_name (f x) name) xs
any_named f name [] = refl
any_named f name (x ∷ xs) = go (f x) (any_named f name xs)
  where
    go : (o : Option (List ℕ))
        → list_any (λ (n : List ℕ). bytes_eq n name) (filter_map f xs) ≡ list_any (λ y. is_name (f y) name) xs
        → list_any (λ (n : List ℕ). bytes_eq n name) (cons_option o (filter_map f xs))
        ≡ (is_name o name || list_any (λ y. is_name (f y) name) xs)
    go None more = more
    go (Some n) more = ap (λ b. bytes_eq n name || b) more

pub sorted_names : {A : Type 0} (f : A → Option (List ℕ)) (xs : List A) (found sorted : List (List ℕ)) → found ≡ filter_map f xs
    → IsPermutation found sorted → (name : List ℕ)
    → list_any (λ (n : List ℕ). bytes_eq n name) sorted ≡ list_any (λ x. is_name (f x) name) xs
sorted_names f xs found sorted is permutation name =
    sym (list_any-IsPermutation (λ (n : List ℕ). bytes_eq n name) found sorted permutation)
    ∙ ap (list_any (λ (n : List ℕ). bytes_eq n name)) is ∙ any_named f name xs

equal_is : (r : Ordering) → r ≡ Equal → is_eq r ≡ true
equal_is r h = ap is_eq h

less_is : (r : Ordering) → r ≡ Less → is_eq r ≡ false
less_is r h = ap is_eq h

greater_is : (r : Ordering) → r ≡ Greater → is_eq r ≡ false
greater_is r h = ap is_eq h

pub searched_name : (xs : List (List ℕ)) (name : List ℕ) (r : Result ℕ ℕ) → IsSorted name_cmp xs → IsSearchInRange r (length xs)
    → IsBinarySearchResult (λ (n : List ℕ). name_cmp n name) xs r → is_ok r ≡ list_any (λ (n : List ℕ). bytes_eq n name) xs
searched_name xs name (Ok i) up within found =
    sym (list_any_at (λ (n : List ℕ). bytes_eq n name) xs i [] within
    (sym (is_eq-slice_cmp (get_or xs i []) name) ∙ equal_is _ (found [])))
searched_name xs name (Err i) up within found =
    let parted = found (searchable_from_sorted nat_list_cmp_total (λ (n : List ℕ). n) xs name up) in
    sym (list_any_none (λ (n : List ℕ). bytes_eq n name) xs (λ k d low. sym (is_eq-slice_cmp (get_or xs k d) name) ∙ go k d low (cases_lt k i) parted))
  where
    go : (k : ℕ) (d : List ℕ) → k < length xs → (k < i) ⊎ (i ≤ k)
        → IsPartitionPoint (λ (n : List ℕ). name_cmp n name ≡ Less) (λ (n : List ℕ). name_cmp n name ≡ Greater) xs i
        → is_eq (name_cmp (get_or xs k d) name) ≡ false
    go k d low (inr after) parted = greater_is _ (parted.1 k d after low)
    go k d low (inl before) parted = less_is _ (parted.0 k d (omega arith) before)
