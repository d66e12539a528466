-- Counting the profiles that a search by heads reads.
use Rattle.std.proofs.Common.{
  ◌≡◌,
  ℕ,
  ◌+◌,
  ◌≤◌,
  Bool,
  true,
  false,
  cond,
  ◌&&◌,
  ◌||◌,
  nat_lt,
  nat_le,
  List,
  [],
  ◌∷◌,
  filter,
  take,
  length,
  count_by,
  refl,
  sym,
  ap,
  ◌∙◌,
  arith,
  ◌⊎◌,
  inl,
  inr,
  Some,
  None,
  length-take,
  add-one,
}
use Rattle.std.specs.Str.{bytes_eq}
use Rattle.std.proofs.lemmas.Bool.Decides.{nat_tests, leb_tells}
use Rattle.std.proofs.lemmas.List.{length-take-le}
use Rattle.std.proofs.lemmas.List.Recursion.{is_count_by}
use Rattle.std.proofs.lemmas.List.Sums.{length-filter}
use Rattle.std.proofs.lemmas.Slice.Eq.{bytes_eq-Decides}
use Rattle.std.specs.List.{starts_with}
use Rattle.std.specs.Prelude.{nat_eq, not}
use Rattle.opc_policy_members.specs.Profiles.{is_before}
use Rattle.opc_policy_members.specs.declared.profile.Profile.{Profile}
use Rattle.opc_policy.specs.Examined.{head_of, with_head, read_until, examined}

-- exactly one of two tests holds if and only if a third does
abbrev pub OneOf : Bool → Bool → Bool → Type 0
OneOf a b c = ((a ≡ true) × (b ≡ false) × (c ≡ true)) ⊎ (((a ≡ false) × (b ≡ true) × (c ≡ true)) ⊎ ((a ≡ false) × (b ≡ false) × (c ≡ false)))

-- how many pass, by recursion on the list
abbrev count : {X : Type 0} → (X → Bool) → List X → ℕ
count p [] = 0
count p (x ∷ xs) = cond (p x) (1 + count p xs) (count p xs)

counts : {X : Type 0} (p : X → Bool) (xs : List X) → count p xs ≡ count_by p xs
counts p xs = is_count_by (count p) p refl (λ _ _. refl) xs

count_one : {X : Type 0} (p q t : X → Bool) → ((x : X) → OneOf (p x) (q x) (t x)) → (xs : List X) → count p xs + count q xs ≡ count t xs
count_one p q t one [] = refl
count_one p q t one (x ∷ xs) =
    let more = count_one p q t one xs in
    elim (one x) [
      | inl h ↦ rw (h.0, h.1, h.2) (omega (arith, more))
      | inr (inl h) ↦ rw (h.0, h.1, h.2) (omega (arith, more))
      | inr (inr h) ↦ rw (h.0, h.1, h.2) (omega (arith, more))
    ]

pub count_sum : {X : Type 0} (p q t : X → Bool) → ((x : X) → OneOf (p x) (q x) (t x)) → (xs : List X) → count_by p xs + count_by q xs ≡ count_by t xs
count_sum p q t one xs = rw (← counts p xs, ← counts q xs, ← counts t xs) (count_one p q t one xs)

count_kept : {X : Type 0} (p q : X → Bool) (xs : List X) → count q (filter p xs) ≡ count (λ x. p x && q x) xs
count_kept p q [] = refl
count_kept {X} p q (x ∷ xs) =
    elim (p x) as (λ a. count q (cond a (x ∷ filter p xs) (filter p xs)) ≡ cond (a && q x)
    (1 + count (λ (y : X). p y && q y) xs) (count (λ (y : X). p y && q y) xs)) [
      | true ↦ ap (λ n. cond (q x) (1 + n) n) (count_kept p q xs)
      | false ↦ count_kept p q xs
    ]

pub count_filter : {X : Type 0} (p q : X → Bool) (xs : List X) → count_by q (filter p xs) ≡ count_by (λ x. p x && q x) xs
count_filter {X} p q xs = rw (← counts q (filter p xs), ← counts (λ (y : X). p y && q y) xs) (count_kept p q xs)

no_count : {X : Type 0} (p : X → Bool) → ((x : X) → p x ≡ false) → (xs : List X) → count p xs ≡ 0
no_count p h [] = refl
no_count p h (x ∷ xs) = rw (h x) (no_count p h xs)

pub count_none : {X : Type 0} (p : X → Bool) → ((x : X) → p x ≡ false) → (xs : List X) → count_by p xs ≡ 0
count_none p h xs = sym (counts p xs) ∙ no_count p h xs

-- a text is a prefix of a name
pub prefix_is : (h name : List ℕ) → starts_with nat_eq name h ≡ true → h ≡ take (length h) name
prefix_is h name e = (bytes_eq-Decides h (take (length h) name)).0 e

pub prefix_fits : (h name : List ℕ) → h ≡ take (length h) name → length h ≤ length name
prefix_fits h name e = omega (arith, ap length e, length-take (length h) name)

prefix_of_take : (h name : List ℕ) (k : ℕ) → k ≤ length name → h ≡ take k name → (length h ≡ k) × (starts_with nat_eq name h ≡ true)
prefix_of_take h name k fits e =
    let l : length h ≡ k = ap length e ∙ length-take-le k name fits in
    (l, (bytes_eq-Decides h (take (length h) name)).1 (rw l e))

one_step : (h name : List ℕ) (k : ℕ) → k ≤ length name
    → OneOf (starts_with nat_eq name h && nat_lt k (length h)) (bytes_eq h (take k name))
    (starts_with nat_eq name h && nat_le k (length h))
one_step h name k fits = go (starts_with nat_eq name h) (bytes_eq h (take k name)) refl refl
  where
    go : (a b : Bool) → starts_with nat_eq name h ≡ a → bytes_eq h (take k name) ≡ b → OneOf (a && nat_lt k (length h)) b (a && nat_le k (length h))
    go true true e f = let l = (prefix_of_take h name k fits ((bytes_eq-Decides h (take k name)).0 f)).0 in
        inr (inl (grind (arith, nat_tests), refl, grind (arith, nat_tests)))
    go true false e f =
        let other : length h ≡ k → ⊥ = λ l. (let g : h ≡ take k name = rw l at (prefix_is h name e) in let t = (bytes_eq-Decides h (take k name)).1 g in cc) in
        elim (leb_tells (k + 1) (length h)) [
          | inl m ↦ inl (grind (arith, nat_tests), refl, grind (arith, nat_tests))
          | inr m ↦ inr (inr (grind (arith, nat_tests), refl, grind (arith, nat_tests)))
        ]
    go false true e f = let t = (prefix_of_take h name k fits ((bytes_eq-Decides h (take k name)).0 f)).1 in cc
    go false false e f = inr (inr (refl, refl, refl))

longer_or_not : (b : Bool) → OneOf b false (b || false)
longer_or_not true = inl (refl, refl, refl)
longer_or_not false = inr (inr (refl, refl, refl))

one_last : (h name : List ℕ) (k : ℕ) (b : Bool) → k ≤ length name
    → OneOf (starts_with nat_eq name h && nat_lt k (length h)) (bytes_eq h (take k name) && b)
    (starts_with nat_eq name h && (nat_lt k (length h) || (bytes_eq h (take k name) && b)))
one_last h name k b fits = go (starts_with nat_eq name h) (bytes_eq h (take k name)) b refl refl
  where
    go : (a c d : Bool) → starts_with nat_eq name h ≡ a → bytes_eq h (take k name) ≡ c
        → OneOf (a && nat_lt k (length h)) (c && d) (a && (nat_lt k (length h) || (c && d)))
    go true true true e f = (let l = (prefix_of_take h name k fits ((bytes_eq-Decides h (take k name)).0 f)).0 in
        let m : nat_lt k (length h) ≡ false = grind (arith, nat_tests) in rw m (inr (inl (refl, refl, refl))))
    go true true false e f = (let l = (prefix_of_take h name k fits ((bytes_eq-Decides h (take k name)).0 f)).0 in
        let m : nat_lt k (length h) ≡ false = grind (arith, nat_tests) in rw m (inr (inr (refl, refl, refl))))
    go true false d e f = longer_or_not (nat_lt k (length h))
    go false true d e f = let t = (prefix_of_take h name k fits ((bytes_eq-Decides h (take k name)).0 f)).1 in cc
    go false false d e f = inr (inr (refl, refl, refl))

-- how many profiles have a longer head that the name begins with, and how many one at least as long
abbrev pub longer : List ℕ → ℕ → List Profile → ℕ
longer name k profiles = count_by (λ (p : Profile). starts_with nat_eq name (head_of p) && nat_lt k (length (head_of p))) profiles

abbrev pub as_long : List ℕ → ℕ → List Profile → ℕ
as_long name k profiles = count_by (λ (p : Profile). starts_with nat_eq name (head_of p) && nat_le k (length (head_of p))) profiles

pub longer_more : (name : List ℕ) (k : ℕ) (profiles : List Profile) → k ≤ length name
    → longer name k profiles + length (with_head (take k name) profiles) ≡ as_long name k profiles
longer_more name k profiles fits = rw length-filter (count_sum _ _ _ (λ p. one_step (head_of p) name k fits) profiles)

pub longer_last : (name : List ℕ) (k : ℕ) (d : Profile) (profiles : List Profile) → k ≤ length name
    → head_of d ≡ take k name → longer name k profiles + length
    (read_until (Some d) (with_head (take k name) profiles)) ≡ length (examined (Some d) name profiles)
longer_last name k d profiles fits e =
    let l : length (head_of d) ≡ k = ap length e ∙ length-take-le k name fits in
    let read : length (read_until (Some d) (with_head (take k name) profiles)) ≡ count_by
    (λ (p : Profile). bytes_eq (head_of p) (take k name) && not (is_before d p)) profiles =
    length-filter (λ (p : Profile). not (is_before d p)) (with_head (take k name) profiles)
    ∙ count_filter (λ (p : Profile). bytes_eq (head_of p) (take k name)) (λ (p : Profile). not (is_before d p))
    profiles in
    rw (read, length-filter, e, length-take-le k name fits) (count_sum _ _ _ (λ p. one_last (head_of p) name k (not (is_before d p)) fits) profiles)

pub longer_none : (name : List ℕ) (profiles : List Profile) → longer name (length name) profiles ≡ 0
longer_none name profiles = count_none _ (λ p. none (head_of p) (starts_with nat_eq name (head_of p)) refl) profiles
  where
    none : (h : List ℕ) (a : Bool) → starts_with nat_eq name h ≡ a → (a && nat_lt (length name) (length h)) ≡ false
    none h true e = let l = prefix_fits h name (prefix_is h name e) in grind (arith, nat_tests)
    none h false e = refl

and_at_least : (a : Bool) (n : ℕ) → (a && nat_le 0 n) ≡ a
and_at_least true n = grind (arith, nat_tests)
and_at_least false n = refl

pub as_long_all : (name : List ℕ) (profiles : List Profile) → as_long name 0 profiles ≡ length (examined None name profiles)
as_long_all name profiles = rw length-filter
    (ap (λ (t : Profile → Bool). count_by t profiles)
    (λ i p. and_at_least (starts_with nat_eq name (head_of p)) (length (head_of p)) i))

pub as_long_more : (name : List ℕ) (j : ℕ) (profiles : List Profile) → as_long name (j + 1) profiles ≡ longer name j profiles
as_long_more name j profiles = rw add-one refl
