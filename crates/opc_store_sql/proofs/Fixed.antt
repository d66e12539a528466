-- A SELECT on a part of one table whose test fixes some columns: its rows come in the order of the others.
use Rattle.std.proofs.Common.{◌≡◌, List, [], ◌∷◌, map, filter, Bool, true, false, cond, refl, sym, ap, ap₂, ◌∙◌, Ordering, Less}
use Rattle.sqlite.specs.declared.types.Value.TheVariants.{Null}
use Rattle.sqlite.specs.Order.{Row}
use Rattle.sqlite.specs.Term.{Term, eval}
use Rattle.sqlite.specs.Query.{output_cmp, as_count, limited}
use Rattle.sqlite.specs.State.{State, Shown}
use Rattle.sqlite_keyed.proofs.ListLemmas.{ascending-filter, filter-map, filter_same}
use Rattle.opc_store_sql.specs.Order.{Rises}
use Rattle.opc_store_sql.specs.Rows.{HasRows}
use Rattle.opc_store_sql.proofs.Asked.{Asked, IsAsked, IsPaged, query, is_of_values, picks, returns, returned_part}
use Rattle.opc_store_sql.proofs.Limited.{part_first}

-- a member that passes has the row that the test fixes
module _ {X : Type 0} (row fixed : X → Row) (p : X → Bool) (same : (x : X) → p x ≡ true → fixed x ≡ row x) where
  fixed_same : (xs : List X) → map fixed (filter p xs) ≡ map row (filter p xs)
  fixed_same [] = refl
  fixed_same (x ∷ xs) = go (p x) refl (fixed_same xs)
    where
      go : (b : Bool) → p x ≡ b → map fixed (filter p xs) ≡ map row (filter p xs)
          → map fixed (cond b (x ∷ filter p xs) (filter p xs)) ≡ map row (cond b (x ∷ filter p xs) (filter p xs))
      go true e more = ap₂ (λ (r : Row) (rows : List Row). r ∷ rows) (same x e) more
      go false e more = more

-- `fixed` is the row with the columns as the test requires them
module _ (a : Asked) (params : Row) (values : is_of_values a ≡ true) {X : Type 0} (row fixed : X → Row)
    (cmp : X → X → Ordering) (whole : (x : X) → (returns a params (Null ∷ fixed x)).1 ≡ fixed x)
    (less : (x y : X) → cmp x y ≡ Less → output_cmp (query a) (returns a params (Null ∷ fixed x)) (returns a params (Null ∷ fixed y)) ≡ Less)
    (p : X → Bool) (passing : (x : X) → picks a params (Null ∷ row x) ≡ p x)
    (same : (x : X) → p x ≡ true → fixed x ≡ row x) (old new : State) (has : old.now.schema ≡ a.schema)
    (xs : List X) (up : Rises cmp xs) (had : HasRows (map row xs) (old.now.trees a.tree)) (rows : List Row) (h : Shown a.text params old new rows) where
  kept : Rises cmp (filter p xs)
  kept = ascending-filter _ p xs up

  mine : filter (λ v. picks a params (Null ∷ v)) (map row xs) ≡ map fixed (filter p xs)
  mine = filter-map _ row xs ∙ (ap (map row) (filter_same _ _ passing xs) ∙ sym (fixed_same row fixed p same xs))

  pub returned_fixed : IsAsked a → rows ≡ map row (filter p xs)
  returned_fixed is = returned_part a params values fixed cmp whole less is old new has (map row xs) (filter p xs) kept mine had rows h
      ∙ fixed_same row fixed p same xs

  -- with LIMIT, the first of them
  pub returned_fixed_first : (limit : Term) → IsPaged a limit → rows ≡ limited (as_count (eval limit (params ∷ []))) (map row (filter p xs))
  returned_fixed_first limit is =
      part_first a params values fixed cmp whole less limit is old new has (map row xs) (filter p xs) kept mine had rows h
      ∙ ap (limited (as_count (eval limit (params ∷ [])))) (fixed_same row fixed p same xs)
