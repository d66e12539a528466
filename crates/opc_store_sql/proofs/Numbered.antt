-- Tables whose key is the rowid: the rows are in the order of their numbers.
use Rattle.std.proofs.Common.{
  ◌≡◌,
  ℕ,
  ◌+◌,
  ◌<◌,
  ℤ,
  pos,
  ◌+ℤ◌,
  suc,
  List,
  [],
  ◌∷◌,
  ◌++◌,
  fold,
  map,
  length,
  refl,
  sym,
  ap,
  subst,
  ◌∙◌,
  arith,
  Ordering,
  Less,
  Equal,
  Greater,
}
use Rattle.std.specs.List.{AllByRecursion}
use Rattle.std.specs.BTreeSet.{replace_key}
use Rattle.std.specs.Ordering.{match_ordering, nat_cmp, int_cmp, ordering_reverse}
use Rattle.std.proofs.lemmas.Cmp.{nat_cmp_total}
use Rattle.std.proofs.lemmas.Int.{ints}
use Rattle.sqlite.specs.declared.types.Value.TheVariants.{Int}
use Rattle.sqlite.specs.Order.{Row, value_cmp}
use Rattle.sqlite.specs.Edit.{next_rowid, id_in}
use Rattle.sqlite_trees.specs.Tree.{rowid, put_row}
use Rattle.sqlite_value.proofs.OrderLemmas.{value_cmp-Int}
use Rattle.sqlite_keyed.proofs.KeyedLemmas.{Less-from_lt}
use Rattle.opc_store_sql.specs.Order.{Rises}
use Rattle.opc_store_sql.specs.Rows.{IsKept, numbered_row, numbered_rows}

int_nat : (a b : ℕ) → int_cmp (pos a) (pos b) ≡ nat_cmp a b
int_nat a b = let same : nat_cmp a b ≡ int_cmp (pos a) (pos b) = grind (arith, ints) in sym same

-- numbers compare as values as they do as numbers
pub number_cmp : (a b : ℕ) → value_cmp (Int (pos a)) (Int (pos b)) ≡ nat_cmp a b
number_cmp a b = value_cmp-Int (pos a) (pos b) ∙ int_nat a b

above : (m n : ℕ) → m < n → value_cmp (Int (pos m)) (Int (pos n)) ≡ Less
above m n less = value_cmp-Int (pos m) (pos n) ∙ Less-from_lt (pos m) (pos n) (omega (arith, ints))

-- ---- the number is the place

module _ {X : Type 0} (values : X → Row) where
  next_from : (n : ℕ) (xs : List X) → fold (λ (_ : ℤ) (r : Row). id_in (rowid r) +ℤ pos 1) (pos n) (numbered_rows values n xs) ≡ pos (n + length xs)
  next_from n [] = let e : n ≡ n + 0 = omega arith in ap pos e
  next_from n (x ∷ xs) = let e : (n + 1) + length xs ≡ n + suc (length xs) = omega arith in next_from (n + 1) xs ∙ ap pos e

  pub next_is : (xs : List X) → next_rowid (numbered_rows values 1 xs) ≡ pos (1 + length xs)
  next_is xs = next_from 1 xs

  put_last : (n : ℕ) (xs : List X) (x : X) → put_row (numbered_row values (n + length xs) x) (numbered_rows values n xs) ≡ numbered_rows values n (xs ++ x ∷ [])
  put_last n [] x = let same : n + 0 ≡ n = omega arith in ap (λ k. numbered_row values k x ∷ []) same
  put_last n (y ∷ xs) x =
      let same : (n + 1) + length xs ≡ n + suc (length xs) = omega arith in
      let later = subst (λ (k : ℕ). put_row (numbered_row values k x) (numbered_rows values (n + 1) xs) ≡ numbered_rows
      values (n + 1) (xs ++ x ∷ [])) same (put_last (n + 1) xs x) in
      rw (above n (n + suc (length xs)) (omega arith)) (ap (λ (l : List Row). numbered_row values n y ∷ l) later)

  -- one more, at the number after the last
  pub put_next : (xs : List X) (x : X) → put_row (Int (next_rowid (numbered_rows values 1 xs)) ∷ values x)
      (numbered_rows values 1 xs) ≡ numbered_rows values 1 (xs ++ x ∷ [])
  put_next xs x = ap (λ (n : ℤ). put_row (Int n ∷ values x) (numbered_rows values 1 xs)) (next_is xs) ∙ put_last 1 xs x

-- ---- the number is the key

module _ {X : Type 0} (values : X → Row) (key : X → ℕ) where
  abbrev cmp : X → X → Ordering
  cmp x y = nat_cmp (key x) (key y)

  abbrev row : X → Row
  row x = numbered_row values (key x) x

  pub keys_compare : (x y : X) → value_cmp (rowid (row x)) (rowid (row y)) ≡ cmp x y
  keys_compare x y = number_cmp (key x) (key y)

  all_above : (x : X) (xs : List X) → AllByRecursion (λ y. cmp x y ≡ Less) xs → AllByRecursion (λ r. value_cmp (rowid (row x)) (rowid r) ≡ Less) (map row xs)
  all_above x [] h = tt
  all_above x (y ∷ xs) h = (keys_compare x y ∙ h.0, all_above x xs h.1)

  -- they have rowids of their own
  pub rising_kept : (xs : List X) → Rises cmp xs → IsKept (map row xs)
  rising_kept [] up = record { apart = tt; keyed = tt }
  rising_kept (x ∷ xs) up = let more = rising_kept xs up.1 in record { apart = (all_above x xs up.0, more.apart); keyed = (refl, more.keyed) }

  -- a row is put at its number
  pub put_at : (x : X) (xs : List X) → put_row (row x) (map row xs) ≡ map row (replace_key cmp xs x)
  put_at x [] = refl
  put_at x (y ∷ xs) =
      ap (λ o. match_ordering o (row y ∷ put_row (row x) (map row xs)) (row x ∷ map row xs)
      (row x ∷ row y ∷ map row xs)) (keys_compare y x ∙ nat_cmp_total.antisymm (key y) (key x))
      ∙ go (cmp x y) (put_at x xs)
    where
      go : (o : Ordering) → put_row (row x) (map row xs) ≡ map row (replace_key cmp xs x)
          → match_ordering (ordering_reverse o) (row y ∷ put_row (row x) (map row xs)) (row x ∷ map row xs) (row x ∷ row y ∷ map row xs)
          ≡ map row (match_ordering o (x ∷ y ∷ xs) (x ∷ xs) (y ∷ replace_key cmp xs x))
      go Less more = refl
      go Equal more = refl
      go Greater more = ap (λ (l : List Row). row y ∷ l) more
