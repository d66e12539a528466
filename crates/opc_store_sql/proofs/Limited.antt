-- A SELECT of one table with LIMIT: the first rows, and whether there is one.
use Rattle.std.proofs.Common.{
  ◌≡◌,
  pos,
  length,
  List,
  [],
  ◌∷◌,
  map,
  drop,
  filter,
  find,
  take,
  Bool,
  true,
  false,
  not,
  cond,
  ◌||◌,
  ◌==◌,
  Some,
  is_some,
  refl,
  sym,
  ap,
  ap₂,
  ◌∙◌,
  arith,
  Ordering,
  Less,
}
use Rattle.std.specs.List.{list_any, flat_map}
use Rattle.std.proofs.lemmas.List.{length-map}
use Rattle.std.proofs.lemmas.List.Folds.{list_any-append}
use Rattle.std.proofs.lemmas.List.Sorted.{length_permutation}
use Rattle.sqlite.specs.declared.types.Value.TheVariants.{Null, Int}
use Rattle.sqlite.specs.Order.{Row}
use Rattle.sqlite.specs.Term.{Term, eval, lit}
use Rattle.sqlite.specs.Query.{Output, output_cmp, as_count, limited}
use Rattle.sqlite.specs.State.{State, Shown}
use Rattle.sqlite_keyed.proofs.ListLemmas.{IsPermutation-filter, filter-map, filter_same}
use Rattle.opc_store_sql.specs.Order.{Rises}
use Rattle.opc_store_sql.specs.Rows.{HasRows}
use Rattle.opc_store_sql.proofs.Asked.{Asked, IsPaged, query, is_of_values, picks, returns, pages, passes_values, shows_values}
use Rattle.opc_store_sql.proofs.Listed.{listed_part}
use Rattle.opc_store_sql.proofs.Queries.{passes, shown}

-- ---- whether a test passes for one of a list

-- of a list that is made of another
pub any_map : {X Y : Type 0} (test : Y → Bool) (of : X → Y) (p : X → Bool) → ((x : X) → test (of x) ≡ p x)
    → (xs : List X) → list_any test (map of xs) ≡ list_any p xs
any_map test of p same [] = refl
any_map test of p same (x ∷ xs) = ap₂ (λ a b. a || b) (same x) (any_map test of p same xs)

pub any_flat_map : {X Y : Type 0} (test : Y → Bool) (of : X → List Y) (p : X → Bool)
    → ((x : X) → list_any test (of x) ≡ p x) → (xs : List X) → list_any test (flat_map of xs) ≡ list_any p xs
any_flat_map test of p same [] = refl
any_flat_map test of p same (x ∷ xs) = list_any-append test (of x) (flat_map of xs) ∙ ap₂ (λ a b. a || b) (same x) (any_flat_map test of p same xs)

-- one is found if one passes
pub any_found : {X : Type 0} (p : X → Bool) (xs : List X) → list_any p xs ≡ is_some (find p xs)
any_found p [] = refl
any_found {X} p (x ∷ xs) = go (p x) (any_found p xs)
  where
    go : (b : Bool) → list_any p xs ≡ is_some (find p xs) → (b || list_any p xs) ≡ is_some (cond b (Some x) (find p xs))
    go true more = refl
    go false more = more

or_shared : (a b c d : Bool) → ((a || b) || (c || d)) ≡ ((a || c) || (b || d))
or_shared true b c d = refl
or_shared false true true d = refl
or_shared false true false d = refl
or_shared false false c d = refl

-- one of two tests
pub any_or : {X : Type 0} (p q : X → Bool) (xs : List X) → list_any (λ x. p x || q x) xs ≡ (list_any p xs || list_any q xs)
any_or p q [] = refl
any_or p q (x ∷ xs) = ap (λ b. (p x || q x) || b) (any_or p q xs) ∙ or_shared (p x) (q x) (list_any p xs) (list_any q xs)

-- of as many as pass a test, the first is there if one passes
first_of : {X Y : Type 0} (p : Y → Bool) (xs : List X) (ys : List Y) → length xs ≡ length (filter p ys) → not (length (take 1 xs) == 0) ≡ list_any p ys
first_of p [] [] many = refl
first_of p (x ∷ xs) [] many = absurd (omega arith)
first_of {X} p xs (y ∷ ys) many = go (p y) xs many (first_of p xs ys)
  where
    go : (b : Bool) (xs : List X) → length xs ≡ length (cond b (y ∷ filter p ys) (filter p ys))
        → (length xs ≡ length (filter p ys) → not (length (take 1 xs) == 0) ≡ list_any p ys)
        → not (length (take 1 xs) == 0) ≡ (b || list_any p ys)
    go true [] many more = absurd (omega arith)
    go true (x ∷ xs) many more = refl
    go false xs many more = more many

abbrev pub one_row : Term
one_row = lit (Int (pos 1))

module _ (a : Asked) (params : Row) (values : is_of_values a ≡ true) where
  abbrev picked : Row → Bool
  picked v = picks a params (Null ∷ v)

  -- the first rows of a part of the table
  pub part_first : {X : Type 0} (row : X → Row) (cmp : X → X → Ordering)
      → ((x : X) → (returns a params (Null ∷ row x)).1 ≡ row x)
      → ((x y : X) → cmp x y ≡ Less → output_cmp (query a) (returns a params (Null ∷ row x))
      (returns a params (Null ∷ row y)) ≡ Less)
      → (limit : Term) → IsPaged a limit → (old new : State) → old.now.schema ≡ a.schema
      → (have : List Row) (xs : List X) → Rises cmp xs → filter picked have ≡ map row xs
      → HasRows have (old.now.trees a.tree)
      → (rows : List Row) → Shown a.text params old new rows → rows ≡ limited (as_count (eval limit (params ∷ []))) (map row xs)
  part_first row cmp whole less limit is old new has have xs up mine had rows h =
      let it = pages a params limit is old new has rows h in
      it.are
      ∙ ap (limited (as_count (eval limit (params ∷ []))))
      (listed_part row row cmp a.tree a.tests a.project a.order params picked (λ v. returns a params (Null ∷ v))
      old.now.trees (passes_values a params values old.now.trees) (shows_values a params values old.now.trees) whole
      less have xs it.all up mine had it.lists)

  -- with LIMIT 1 there is a row where one passes the test
  pub returned_any : IsPaged a one_row → (old new : State) → old.now.schema ≡ a.schema → (have : List Row)
      → HasRows have (old.now.trees a.tree) → (rows : List Row) → Shown a.text params old new rows
      → not (length rows == 0) ≡ list_any picked have
  returned_any is old new has have had rows h =
      let db = old.now.trees in
      let test = passes a.tree a.tests a.project a.order db params in
      let hits : List Row = filter test (db a.tree) in
      let after = λ (r : Row). drop 1 r in
      let it = pages a params one_row is old new has rows h in
      let kept : filter picked (map after (db a.tree)) ≡ map after hits =
      filter-map picked after (db a.tree)
      ∙ ap (map after) (filter_same _ _ (λ r. sym (passes_values a params values db r)) (db a.tree)) in
      let many : length it.all ≡ length (filter picked have) =
      ap length it.lists.are
      ∙ (length-map it.lists.ordered (λ (o : Output). o.1)
      ∙ (length_permutation _ _ it.lists.same
      ∙ (length-map hits (shown a.tree a.tests a.project a.order db params)
      ∙ (sym (length-map hits after)
      ∙ (ap length (sym kept) ∙ length_permutation _ _ (IsPermutation-filter picked _ _ had.each)))))) in
      ap (λ (l : List Row). not (length l == 0)) it.are ∙ first_of picked it.all have many
