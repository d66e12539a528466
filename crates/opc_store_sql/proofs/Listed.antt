-- The result of a query on one table in the order of the key, if the table has one row for each member of a list in that order: for each member that passes,
-- what is shown of its row.
use Rattle.std.proofs.Common.{◌≡◌, ℕ, List, map, drop, filter, Bool, Ordering, Less, sym, ap, subst, ◌∙◌, IsPermutation}
use Rattle.std.proofs.lemmas.List.Sorted.{IsPermutation-map, IsPermutation-trans}
use Rattle.sqlite.specs.Order.{Row}
use Rattle.sqlite.specs.Term.{Term}
use Rattle.sqlite.specs.Query.{Output, output_cmp}
use Rattle.sqlite.specs.Tree.{Trees}
use Rattle.sqlite_value.specs.declared.keys.Key.{Key}
use Rattle.sqlite_sql.proofs.QueryLemmas.{output_cmp_total}
use Rattle.sqlite_keyed.proofs.ListLemmas.{map-map, map_same, filter-map, filter_same, IsPermutation-filter, ascending-map, ascending-filter, ascending_weaker}
use Rattle.sqlite_keyed.proofs.SortLemmas.{sorted_unique}
use Rattle.opc_store_sql.specs.Rows.{HasRows}
use Rattle.opc_store_sql.specs.Order.{Rises}
use Rattle.opc_store_sql.proofs.Queries.{Lists, passes, shown, selecting}

module _ {X : Type 0} (row shape : X → Row) (cmp : X → X → Ordering) (tree : ℕ) (tests project : List Term) (order : List (Term × Key)) (params : Row)
    (q : Row → Bool) (out : Row → Output) (p : X → Bool) (db : Trees)
    (meets : (r : Row) → passes tree tests project order db params r ≡ q (drop 1 r))
    (shows : (r : Row) → shown tree tests project order db params r ≡ out (drop 1 r))
    (picks : (x : X) → q (row x) ≡ p x)
    (itself : (x : X) → (out (row x)).1 ≡ shape x)
    (less : (x y : X) → cmp x y ≡ Less → output_cmp (selecting tree tests project order) (out (row x)) (out (row y)) ≡ Less) where
  pub listed : (xs : List X) (rows : List Row) → Rises cmp xs → HasRows (map row xs) (db tree)
      → Lists tree tests project order db params rows → rows ≡ map shape (filter p xs)
  listed xs rows up has lists =
      let query = selecting tree tests project order in
      let values = λ (r : Row). drop 1 r in
      let picked = filter p xs in
      let hits : List Row = filter (passes tree tests project order db params) (db tree) in
      let kept : filter q (map values (db tree)) ≡ map values hits =
      filter-map q values (db tree) ∙ ap (map values) (filter_same _ _ (λ r. sym (meets r)) (db tree)) in
      let mine : filter q (map row xs) ≡ map row picked = filter-map q row xs ∙ ap (map row) (filter_same _ _ picks xs) in
      let same : IsPermutation (map row picked) (map values hits) =
      subst (λ (l : List Row). IsPermutation l (map values hits)) mine
      (subst (λ (l : List Row). IsPermutation (filter q (map row xs)) l) kept (IsPermutation-filter q _ _ has.each))
      in
      let theirs : map out (map values hits) ≡ map (shown tree tests project order db params) hits =
      map-map out values _ ∙ map_same _ _ (λ r. sym (shows r)) hits in
      let given : IsPermutation (map (λ x. out (row x)) picked) lists.ordered =
      subst (λ (l : List Output). IsPermutation l lists.ordered) (map-map out row picked)
      (IsPermutation-trans _ _ _ (IsPermutation-map out _ _ same)
      (subst (λ (l : List Output). IsPermutation l lists.ordered) (sym theirs) lists.same)) in
      let strict = ascending-map (λ a b. output_cmp query a b ≡ Less) (λ x. out (row x)) picked
      (ascending_weaker (λ a b. cmp a b ≡ Less) _ less picked (ascending-filter _ p xs up)) in
      let is : lists.ordered ≡ map (λ x. out (row x)) picked = sorted_unique (output_cmp query) (output_cmp_total query) _ _ strict given lists.sorted in
      lists.are ∙ (ap (map (λ (o : Output). o.1)) is ∙ (map-map (λ (o : Output). o.1) (λ x. out (row x)) picked ∙ map_same _ _ itself picked))

-- The same if the table's key is the rowid, and its rows are those of the members.
module _ {X : Type 0} (row : X → Row) (cmp : X → X → Ordering) (tree : ℕ) (tests project : List Term)
    (order : List (Term × Key)) (params : Row) (out : X → Output) (p : X → Bool) (db : Trees)
    (picks : (x : X) → passes tree tests project order db params (row x) ≡ p x)
    (shows : (x : X) → shown tree tests project order db params (row x) ≡ out x)
    (less : (x y : X) → cmp x y ≡ Less → output_cmp (selecting tree tests project order) (out x) (out y) ≡ Less) where
  pub listed_numbers : (xs : List X) (rows : List Row) → Rises cmp xs → db tree ≡ map row xs
      → Lists tree tests project order db params rows → rows ≡ map (λ x. (out x).1) (filter p xs)
  listed_numbers xs rows up has lists =
      let query = selecting tree tests project order in
      let picked = filter p xs in
      let mine : filter (passes tree tests project order db params) (db tree) ≡ map row picked =
      ap (filter (passes tree tests project order db params)) has ∙ (filter-map _ row xs ∙ ap (map row) (filter_same _ _ picks xs)) in
      let theirs : map (shown tree tests project order db params) (filter (passes tree tests project order db params) (db tree)) ≡ map out picked =
      ap (map (shown tree tests project order db params)) mine ∙ (map-map (shown tree tests project order db params) row picked ∙ map_same _ _ shows picked) in
      let given : IsPermutation (map out picked) lists.ordered = subst (λ (l : List Output). IsPermutation l lists.ordered) theirs lists.same in
      let strict = ascending-map (λ a b. output_cmp query a b ≡ Less) out picked
      (ascending_weaker (λ a b. cmp a b ≡ Less) _ less picked (ascending-filter _ p xs up)) in
      let is : lists.ordered ≡ map out picked = sorted_unique (output_cmp query) (output_cmp_total query) _ _ strict given lists.sorted in
      lists.are ∙ (ap (map (λ (o : Output). o.1)) is ∙ map-map (λ (o : Output). o.1) out picked)

-- The same for a part of a table: the rows that a test selects are those of the members of a list in the order of the
-- query.
module _ {X : Type 0} (row shape : X → Row) (cmp : X → X → Ordering) (tree : ℕ) (tests project : List Term) (order : List (Term × Key)) (params : Row)
    (q : Row → Bool) (out : Row → Output) (db : Trees)
    (meets : (r : Row) → passes tree tests project order db params r ≡ q (drop 1 r))
    (shows : (r : Row) → shown tree tests project order db params r ≡ out (drop 1 r))
    (itself : (x : X) → (out (row x)).1 ≡ shape x)
    (less : (x y : X) → cmp x y ≡ Less → output_cmp (selecting tree tests project order) (out (row x)) (out (row y)) ≡ Less) where
  pub listed_part : (have : List Row) (picked : List X) (rows : List Row) → Rises cmp picked
      → filter q have ≡ map row picked → HasRows have (db tree) → Lists tree tests project order db params rows
      → rows ≡ map shape picked
  listed_part have picked rows up mine has lists =
      let query = selecting tree tests project order in
      let values = λ (r : Row). drop 1 r in
      let hits : List Row = filter (passes tree tests project order db params) (db tree) in
      let kept : filter q (map values (db tree)) ≡ map values hits =
      filter-map q values (db tree) ∙ ap (map values) (filter_same _ _ (λ r. sym (meets r)) (db tree)) in
      let same : IsPermutation (map row picked) (map values hits) =
      subst (λ (l : List Row). IsPermutation l (map values hits)) mine
      (subst (λ (l : List Row). IsPermutation (filter q have) l) kept (IsPermutation-filter q _ _ has.each)) in
      let theirs : map out (map values hits) ≡ map (shown tree tests project order db params) hits =
      map-map out values _ ∙ map_same _ _ (λ r. sym (shows r)) hits in
      let given : IsPermutation (map (λ x. out (row x)) picked) lists.ordered =
      subst (λ (l : List Output). IsPermutation l lists.ordered) (map-map out row picked)
      (IsPermutation-trans _ _ _ (IsPermutation-map out _ _ same)
      (subst (λ (l : List Output). IsPermutation l lists.ordered) (sym theirs) lists.same)) in
      let strict = ascending-map (λ a b. output_cmp query a b ≡ Less) (λ x. out (row x)) picked (ascending_weaker (λ a b. cmp a b ≡ Less) _ less picked up) in
      let is : lists.ordered ≡ map (λ x. out (row x)) picked = sorted_unique (output_cmp query) (output_cmp_total query) _ _ strict given lists.sorted in
      lists.are ∙ (ap (map (λ (o : Output). o.1)) is ∙ (map-map (λ (o : Output). o.1) (λ x. out (row x)) picked ∙ map_same _ _ itself picked))
