-- If one table of a schema changes, the others have the rows that they had.
use Rattle.std.proofs.Common.{◌≡◌, ◌≢◌, ℕ, zero, suc, nat_eq, List, [], ◌∷◌, set, slice_get, not, ◌&&◌, Bool, true, Option, Some, None, sym, subst, arith}
use Rattle.std.proofs.lemmas.Bool.Decides.{nat_tests}
use Rattle.std.proofs.lemmas.List.Sorted.{IsPermutation-refl}
use Rattle.std.specs.List.{AllByRecursion, list_all}
use Rattle.sqlite.specs.Order.{Row}
use Rattle.sqlite.specs.Table.{Table}
use Rattle.sqlite.specs.Tree.{Trees}
use Rattle.sqlite.specs.Change.{KeepsRows}
use Rattle.sqlite_keyed.proofs.ListLemmas.{all-slice_get}
use Rattle.opc_store_sql.specs.Rows.{HasRows, FilledBy, IsFilled, AreFilled}
use Rattle.std.proofs.lemmas.Bool.{and_parts}

-- of the tables none but the one at this place is at the tree
abbrev pub is_alone : ℕ → ℕ → List Table → Bool
is_alone tree at [] = true
is_alone tree zero (t ∷ tables) = list_all (λ (u : Table). not (nat_eq u.tree tree)) tables
is_alone tree (suc at) (t ∷ tables) = not (nat_eq t.tree tree) && is_alone tree at tables

no_rows : (rows : List Row) → rows ≡ [] → HasRows [] rows
no_rows rows none = subst (HasRows []) (sym none) (record { each = IsPermutation-refl []; kept = record { apart = tt; keyed = tt } })

pub none_filled : (key : Option ℕ) (rows : List Row) → rows ≡ [] → FilledBy key [] rows
none_filled (Some place) rows none = none
none_filled None rows none = no_rows rows none

-- tables whose rows stay
pub filled_kept : (tables : List Table) (all : List (List Row)) (old new : Trees) → KeepsRows tables old new
    → AreFilled tables all old → AreFilled tables all new
filled_kept [] [] old new same h = tt
filled_kept [] (rows ∷ all) old new same h = h
filled_kept (t ∷ tables) [] old new same h = h
filled_kept (t ∷ tables) (rows ∷ all) old new same h = (subst (FilledBy t.key rows) (sym same.0) h.0, filled_kept tables all old new same.1 h.1)

elsewhere : (a b : ℕ) → not (nat_eq a b) ≡ true → a ≢ b
elsewhere a b differ same = grind (arith, nat_tests)

module _ (tree : ℕ) (old new : Trees) where
  abbrev pub IsSpared : Table → Type 0
  IsSpared t = t.tree ≢ tree → new t.tree ≡ old t.tree

  kept : (t : Table) (rows : List Row) → not (nat_eq t.tree tree) ≡ true → IsSpared t → IsFilled t rows old → IsFilled t rows new
  kept t rows differ stays h = subst (FilledBy t.key rows) (sym (stays (elsewhere t.tree tree differ))) h

  all_kept : (tables : List Table) (all : List (List Row))
      → list_all (λ (t : Table). not (nat_eq t.tree tree)) tables ≡ true → AllByRecursion IsSpared tables
      → AreFilled tables all old → AreFilled tables all new
  all_kept [] [] differ stays h = tt
  all_kept [] (rows ∷ all) differ stays h = h
  all_kept (t ∷ tables) [] differ stays h = h
  all_kept (t ∷ tables) (rows ∷ all) differ stays h = let both =
      and_parts _ _ differ in (kept t rows both.0 stays.0 h.0, all_kept tables all both.1 stays.1 h.1)

  -- a table at another tree has the rows that it had
  pub other_at : (at : ℕ) (table : Table) (tables : List Table) → slice_get tables at ≡ Some table
      → not (nat_eq table.tree tree) ≡ true → AllByRecursion IsSpared tables → new table.tree ≡ old table.tree
  other_at at table tables found differ spared = all-slice_get IsSpared tables at table found spared (elsewhere table.tree tree differ)

  -- the table at this place has these rows now, and the others those that they had
  pub one_changes : (at : ℕ) (table : Table) (tables : List Table) (all : List (List Row)) (rows : List Row)
      → slice_get tables at ≡ Some table → is_alone tree at tables ≡ true
      → AllByRecursion IsSpared tables → AreFilled tables all old → IsFilled table rows new → AreFilled tables (set all at rows) new
  one_changes at table [] all rows found alone stays was has = absurd cc
  one_changes at table (t ∷ tables) [] rows found alone stays was has = absurd was
  one_changes zero table (t ∷ tables) (first ∷ all) rows found alone stays was has =
      let same : table ≡ t = cc in
      (subst (λ (t : Table). IsFilled t rows new) same has, all_kept tables all alone stays.1 was.1)
  one_changes (suc at) table (t ∷ tables) (first ∷ all) rows found alone stays was has =
      let both = and_parts _ _ alone in
      (kept t first both.0 stays.0 was.0, one_changes at table tables all rows found both.1 stays.1 was.1 has)
