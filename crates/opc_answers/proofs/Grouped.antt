-- The connects of a user stand side by side among connects in order.
use Rattle.std.proofs.Common.{
  ◌≡◌,
  ◌<◌,
  ◌≤◌,
  ◌+◌,
  ◌-◌,
  ℕ,
  zero,
  suc,
  Bool,
  true,
  false,
  not,
  ltb,
  List,
  [],
  ◌∷◌,
  filter,
  take,
  drop,
  get_or,
  length,
  refl,
  sym,
  ap,
  ◌∙◌,
  arith,
}
use Rattle.std.specs.Cmp.Lexicographic.{nat_list_cmp_total}
use Rattle.std.specs.List.{AllByRecursion}
use Rattle.std.specs.List.Sorted.{IsNonDecreasingBy, IsPartitionedBy, IsSortedBy, IsStrictlySortedBy}
use Rattle.std.specs.Ordering.{is_eq, is_lt, ordering_index, ordering_reverse, ordering_then}
use Rattle.std.specs.Str.{bytes_eq}
use Rattle.std.specs.declared.cmp.Ordering.{Ordering}
use Rattle.std.specs.declared.cmp.Ordering.TheVariants.{Less, Equal, Greater}
use Rattle.std.proofs.lemmas.Bool.{ltb-false, ltb-true}
use Rattle.std.proofs.lemmas.List.Sorted.{IsPartitionedBy-ltb, searchable_from_sorted}
use Rattle.std.proofs.lemmas.Map.Text.{is_eq-slice_cmp}
use Rattle.opc_policy_members.specs.Members.{connect_cmp, name_cmp}
use Rattle.opc_policy_members.specs.declared.connect.Connect.{Connect}
use Rattle.opc_answers.specs.Made.{IsSplit, connects_of, is_before, is_up_to}

abbrev pub is_of : List ℕ → Connect → Bool
is_of id c = bytes_eq c.user id

-- ---- a test that passes from one place to another alone

none_from : (p : Connect → Bool) (xs : List Connect) → ((k : ℕ) (d : Connect) → k < length xs → p (get_or xs k d) ≡ false) → filter p xs ≡ []
none_from p [] fails = refl
none_from p (x ∷ xs) fails = rw (fails 0 x (omega arith)) (none_from p xs (λ k d l. fails (suc k) d (omega (arith, l))))

first_ones : (p : Connect → Bool) (xs : List Connect) (n : ℕ) → n ≤ length xs
    → ((k : ℕ) (d : Connect) → k < n → p (get_or xs k d) ≡ true)
    → ((k : ℕ) (d : Connect) → n ≤ k → k < length xs → p (get_or xs k d) ≡ false)
    → filter p xs ≡ take n xs
first_ones p [] zero within passes fails = refl
first_ones p [] (suc n) within passes fails = absurd (omega (arith, within))
first_ones p (x ∷ xs) zero within passes fails = none_from p (x ∷ xs) (λ k d l. fails k d (omega arith) l)
first_ones p (x ∷ xs) (suc n) within passes fails =
    rw (passes 0 x (omega arith)) (ap (λ ys. x ∷ ys) (first_ones p xs n (omega (arith, within))
    (λ k d l. passes (suc k) d (omega (arith, l))) (λ k d l m. fails (suc k) d (omega (arith, l)) (omega (arith, m)))))

pub ranged : (p : Connect → Bool) (xs : List Connect) (i n : ℕ) → i + n ≤ length xs
    → ((k : ℕ) (d : Connect) → k < i → p (get_or xs k d) ≡ false)
    → ((k : ℕ) (d : Connect) → i ≤ k → k < i + n → p (get_or xs k d) ≡ true)
    → ((k : ℕ) (d : Connect) → i + n ≤ k → k < length xs → p (get_or xs k d) ≡ false)
    → filter p xs ≡ take n (drop i xs)
ranged p xs zero n within before passes after = first_ones p xs n (omega (arith, within))
    (λ k d l. passes k d (omega arith) (omega (arith, l))) (λ k d l m. after k d (omega (arith, l)) m)
ranged p [] (suc i) n within before passes after = absurd (omega (arith, within))
ranged p (x ∷ xs) (suc i) n within before passes after =
    rw (before 0 x (omega arith)) (ranged p xs i n (omega (arith, within)) (λ k d l. before (suc k) d (omega (arith, l)))
    (λ k d l m. passes (suc k) d (omega (arith, l)) (omega (arith, m)))
    (λ k d l m. after (suc k) d (omega (arith, l)) (omega (arith, m))))

-- ---- users in order

before_all : (P : Connect → Type 0) (xs : List Connect) (k : ℕ) (d : Connect) → AllByRecursion P xs → k < length xs → P (get_or xs k d)
before_all P [] k d all within = absurd (omega (arith, within))
before_all P (x ∷ xs) zero d all within = all.0
before_all P (x ∷ xs) (suc k) d all within = before_all P xs k d all.1 (omega (arith, within))

later : (xs : List Connect) (i j : ℕ) (d : Connect) → IsStrictlySortedBy connect_cmp xs → i < j → j < length xs
    → connect_cmp (get_or xs i d) (get_or xs j d) ≡ Less
unfolding IsStrictlySortedBy
later [] i j d h lt within = absurd (omega (arith, within))
later (x ∷ xs) i zero d h lt within = absurd (omega (arith, lt))
later (x ∷ xs) zero (suc j) d h lt within = before_all (λ y. connect_cmp x y ≡ Less) xs j d h.0 (omega (arith, within))
later (x ∷ xs) (suc i) (suc j) d h lt within = later xs i j d h.1 (omega (arith, lt)) (omega (arith, within))

by_user : (o p : Ordering) → ordering_then o p ≡ Less → is_lt (ordering_reverse o) ≡ false
by_user Less p h = refl
by_user Equal p h = refl
by_user Greater p h = absurd (cc)

sorted : (xs : List Connect) → IsStrictlySortedBy connect_cmp xs → IsSortedBy (λ (a b : Connect). is_lt (name_cmp a.user b.user)) xs
sorted xs h k d low within =
    let a = get_or xs k d in
    let b = get_or xs (k + 1) d in
    ap is_lt (nat_list_cmp_total.antisymm b.user a.user)
    ∙ by_user (name_cmp a.user b.user) (name_cmp a.group b.group) (later xs k (k + 1) d h (omega arith) within)

rise : (id : List ℕ) (xs : List Connect) → IsStrictlySortedBy connect_cmp xs
    → IsNonDecreasingBy (λ (c : Connect). ordering_index (name_cmp c.user id)) xs
rise id xs h = searchable_from_sorted nat_list_cmp_total (λ (c : Connect). c.user) xs id (sorted xs h)

below_1 : (o : Ordering) → ltb (ordering_index o) 1 ≡ is_lt o
below_1 Less = refl
below_1 Equal = refl
below_1 Greater = refl

below_2 : (o : Ordering) → ltb (ordering_index o) 2 ≡ not (is_lt (ordering_reverse o))
below_2 Less = refl
below_2 Equal = refl
below_2 Greater = refl

up_to_is : (id : List ℕ) (c : Connect) → is_up_to id c ≡ not (is_lt (ordering_reverse (name_cmp c.user id)))
up_to_is id c = ap (λ o. not (is_lt o)) (nat_list_cmp_total.antisymm id c.user)

pub parted_before : (id : List ℕ) (xs : List Connect) → IsStrictlySortedBy connect_cmp xs → IsPartitionedBy (is_before id) xs
parted_before id xs h i j d le within passes =
    let part = IsPartitionedBy-ltb (λ (c : Connect). ordering_index (name_cmp c.user id)) xs 1 (rise id xs h) in
    sym (below_1 (name_cmp (get_or xs i d).user id)) ∙ part i j d le within (below_1 (name_cmp (get_or xs j d).user id) ∙ passes)

pub parted_up_to : (id : List ℕ) (xs : List Connect) → IsStrictlySortedBy connect_cmp xs → IsPartitionedBy (is_up_to id) xs
parted_up_to id xs h i j d le within passes =
    let part = IsPartitionedBy-ltb (λ (c : Connect). ordering_index (name_cmp c.user id)) xs 2 (rise id xs h) in
    up_to_is id (get_or xs i d) ∙ sym (below_2 (name_cmp (get_or xs i d).user id))
    ∙ part i j d le within (below_2 (name_cmp (get_or xs j d).user id) ∙ sym (up_to_is id (get_or xs j d)) ∙ passes)

-- ---- what stands between the two places

eq_is : (id : List ℕ) (c : Connect) → is_of id c ≡ is_eq (name_cmp c.user id)
eq_is id c = sym (is_eq-slice_cmp c.user id)

not_before : (o : Ordering) → is_lt o ≡ true → is_eq o ≡ false
not_before Less h = refl
not_before Equal h = absurd (cc)
not_before Greater h = refl

between : (o : Ordering) → is_lt o ≡ false → not (is_lt (ordering_reverse o)) ≡ true → is_eq o ≡ true
between Less h g = absurd (cc)
between Equal h g = refl
between Greater h g = absurd (cc)

not_after : (o : Ordering) → not (is_lt (ordering_reverse o)) ≡ false → is_eq o ≡ false
not_after Less h = refl
not_after Equal h = absurd (cc)
not_after Greater h = refl

clash : (o : Ordering) → is_lt o ≡ true → not (is_lt (ordering_reverse o)) ≡ false → ⊥
clash Less h g = cc
clash Equal h g = cc
clash Greater h g = cc

pub in_turn : (id : List ℕ) (xs : List Connect) (first after : ℕ) → first ≤ length xs → IsSplit (is_before id) xs first
    → IsSplit (is_up_to id) xs after → first ≤ after
in_turn id [] first after within one other = omega (arith, within)
in_turn id (x ∷ xs) first after within one other = go (ltb after first) refl
  where
    go : (b : Bool) → ltb after first ≡ b → first ≤ after
    go true is =
        let lt : after < first = ltb-true after first is in
        let c = get_or (x ∷ xs) after x in
        absurd (clash (name_cmp c.user id) (one.0 after x (omega arith) lt)
        (sym (up_to_is id c) ∙ other.1 after x (omega arith) (omega (arith, lt, within))))
    go false is = ltb-false after first is

pub side_by_side : (id : List ℕ) (xs : List Connect) (first after : ℕ) → first ≤ after → after ≤ length xs
    → IsSplit (is_before id) xs first → IsSplit (is_up_to id) xs after
    → take (after - first) (drop first xs) ≡ connects_of xs id
side_by_side id xs first after turn within one other =
    sym (ranged (is_of id) xs first (after - first) (omega (arith, turn, within))
    (λ k d l. let c = get_or xs k d in eq_is id c ∙ not_before (name_cmp c.user id) (one.0 k d (omega arith) l))
    (λ k d l m. let c = get_or xs k d in eq_is id c
    ∙ between (name_cmp c.user id) (one.1 k d l (omega (arith, m, turn, within)))
    (sym (up_to_is id c) ∙ other.0 k d (omega arith) (omega (arith, m, turn))))
    (λ k d l m. let c = get_or xs k d in eq_is id c
    ∙ not_after (name_cmp c.user id) (sym (up_to_is id c) ∙ other.1 k d (omega (arith, l, turn)) m)))
