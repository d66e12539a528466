-- The rows of a pattern, among rows in the order of their patterns.
use Rattle.std.proofs.Common.{
  ◌≡◌,
  ℕ,
  zero,
  suc,
  ◌<◌,
  ◌≤◌,
  List,
  [],
  ◌∷◌,
  Bool,
  true,
  false,
  cond,
  filter,
  take,
  drop,
  length,
  get_or,
  refl,
  sym,
  ap,
  ◌∙◌,
  arith,
  Ordering,
  Less,
  Equal,
  Greater,
  is_eq,
  is_lt,
  is_gt,
}
use Rattle.std.specs.List.{AllByRecursion, AllWithin, take_while}
use Rattle.std.specs.List.Sorted.{IsPartitionPoint, IsPartitionedBy}
use Rattle.std.proofs.lemmas.Cmp.{nat_list_cmp_total, upto}
use Rattle.std.proofs.lemmas.List.Sums.{take_while-cons}
use Rattle.std.proofs.lemmas.Map.Text.{is_eq-slice_cmp}
use Rattle.sqlite.specs.Order.{Row}
use Rattle.sqlite_keyed.proofs.ListLemmas.{all_weaker, filter_none}
use Rattle.opc_store_sql.specs.Order.{text_cmp}
use Rattle.opc_store_profiles.specs.Lists.{AreByPattern, is_before, is_of, pattern_in}

at_each : {X : Type 0} (P : X → Type 0) (xs : List X) → AllByRecursion P xs → (k : ℕ) (d : X) → k < length xs → P (get_or xs k d)
at_each P [] all k d low = absurd (omega arith)
at_each P (x ∷ xs) all zero d low = all.0
at_each P (x ∷ xs) all (suc k) d low = at_each P xs all.1 k d (omega arith)

from_within : {X : Type 0} (P : X → Type 0) (xs : List X) → AllWithin P xs 0 (length xs) → AllByRecursion P xs
from_within P [] h = tt
from_within P (x ∷ xs) h = (h zero x (omega arith) (omega arith), from_within P xs (λ k d low high. h (suc k) d (omega arith) (omega arith)))

less_is : (o : Ordering) → is_lt o ≡ true → o ≡ Less
less_is Less h = refl
less_is Equal h = absurd cc
less_is Greater h = absurd cc

module _ (pattern : List ℕ) where
  strict : (x y : Row) → is_gt (text_cmp (pattern_in x) (pattern_in y)) ≡ false → is_before pattern y ≡ true → is_before pattern x ≡ true
  strict x y most before = go (text_cmp (pattern_in x) (pattern_in y)) refl most
    where
      after : text_cmp (pattern_in y) pattern ≡ Less
      after = less_is _ before

      go : (o : Ordering) → text_cmp (pattern_in x) (pattern_in y) ≡ o → is_gt o ≡ false → is_before pattern x ≡ true
      go Less e h = ap is_lt (nat_list_cmp_total.trans (pattern_in x) (pattern_in y) pattern e after)
      go Equal e h = ap is_lt (nat_list_cmp_total.congr (pattern_in x) (pattern_in y) pattern e ∙ after)
      go Greater e h = absurd cc

  pub split : (rows : List Row) → AreByPattern rows → IsPartitionedBy (is_before pattern) rows
  split [] up i j d low high h = absurd (omega arith)
  split (x ∷ rows) up zero zero d low high h = h
  split (x ∷ rows) up zero (suc j) d low high h = strict x (get_or rows j d) (at_each _ rows up.0 j d (omega arith)) h
  split (x ∷ rows) up (suc i) zero d low high h = absurd (omega arith)
  split (x ∷ rows) up (suc i) (suc j) d low high h = split rows up.1 i j d (omega arith) (omega arith) h

  ties : (x : Row) → is_of pattern x ≡ is_eq (text_cmp (pattern_in x) pattern)
  ties x = sym (is_eq-slice_cmp (pattern_in x) pattern)

  above : (x : Row) → is_before pattern x ≡ false → is_of pattern x ≡ false → text_cmp (pattern_in x) pattern ≡ Greater
  above x past other = go (text_cmp (pattern_in x) pattern) refl past (sym (ties x) ∙ other)
    where
      go : (o : Ordering) → text_cmp (pattern_in x) pattern ≡ o → is_lt o ≡ false → is_eq o ≡ false → o ≡ Greater
      go Less e h k = absurd cc
      go Equal e h k = absurd cc
      go Greater e h k = refl

  -- what comes after a row of a later pattern is not of the pattern
  still_above : (x y : Row) → text_cmp (pattern_in x) pattern ≡ Greater → is_gt (text_cmp (pattern_in x) (pattern_in y)) ≡ false → is_of pattern y ≡ false
  still_above x y later most = ties y ∙ go (text_cmp (pattern_in y) pattern) refl
    where
      go : (o : Ordering) → text_cmp (pattern_in y) pattern ≡ o → is_eq o ≡ false
      go Less e = refl
      go Equal e =
          let low : is_gt (text_cmp (pattern_in x) pattern) ≡ false = upto nat_list_cmp_total (pattern_in x) (pattern_in y) pattern most (ap is_gt e) in
          let high : is_gt (text_cmp (pattern_in x) pattern) ≡ true = ap is_gt later in
          absurd cc
      go Greater e = refl

  in_prefix : (rows : List Row) → AreByPattern rows → AllByRecursion (λ row. is_before pattern row ≡ false) rows
      → take (length (take_while (is_of pattern) rows)) rows ≡ filter (is_of pattern) rows
  in_prefix [] up past = refl
  in_prefix (x ∷ rows) up past = go (is_of pattern x) refl (in_prefix rows up.1 past.1)
    where
      go : (b : Bool) → is_of pattern x ≡ b → take (length (take_while (is_of pattern) rows)) rows ≡ filter (is_of pattern) rows
          → take (length (take_while (is_of pattern) (x ∷ rows))) (x ∷ rows) ≡ cond (is_of pattern x)
          (x ∷ filter (is_of pattern) rows) (filter (is_of pattern) rows)
      go true e more =
          ap (λ (l : List Row). take (length l) (x ∷ rows))
          (take_while-cons (is_of pattern) x rows ∙ ap (λ b. cond b (x ∷ take_while (is_of pattern) rows) []) e)
          ∙ (ap (λ (l : List Row). x ∷ l) more ∙ sym (ap (λ b. cond b (x ∷ filter (is_of pattern) rows) (filter (is_of pattern) rows)) e))
      go false e more =
          let later = above x past.0 e in
          ap (λ (l : List Row). take (length l) (x ∷ rows))
          (take_while-cons (is_of pattern) x rows ∙ ap (λ b. cond b (x ∷ take_while (is_of pattern) rows) []) e)
          ∙ (sym (filter_none (is_of pattern) rows
          (all_weaker _ (λ row. is_of pattern row ≡ false) (λ y most. still_above x y later most) rows up.0))
          ∙ sym (ap (λ b. cond b (x ∷ filter (is_of pattern) rows) (filter (is_of pattern) rows)) e))

  not_yet : (x : Row) → is_before pattern x ≡ true → is_of pattern x ≡ false
  not_yet x before = ties x ∙ ap is_eq (less_is _ before)

  pub rows_at : (rows : List Row) (i : ℕ) → AreByPattern rows → i ≤ length rows
      → IsPartitionPoint (λ row. is_before pattern row ≡ true) (λ row. is_before pattern row ≡ false) rows i
      → take (length (take_while (is_of pattern) (drop i rows))) (drop i rows) ≡ filter (is_of pattern) rows
  rows_at rows zero up low at = in_prefix rows up (from_within _ rows at.1)
  rows_at [] (suc i) up low at = absurd (omega arith)
  rows_at (x ∷ rows) (suc i) up low at =
      rows_at rows i up.1 (omega arith) (λ k d a b. at.0 (suc k) d (omega arith) (omega arith), λ k d a b. at.1 (suc k) d (omega arith) (omega arith))
      ∙ sym (ap (λ b. cond b (x ∷ filter (is_of pattern) rows) (filter (is_of pattern) rows)) (not_yet x (at.0 zero x (omega arith) (omega arith))))
