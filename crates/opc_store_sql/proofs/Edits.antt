-- What an edit of a table makes of the values that it has.
use Rattle.std.proofs.Common.{◌≡◌, ℕ, ℤ, List, [], ◌∷◌, ◌++◌, map, drop, filter, not, Bool, true, refl, sym, ap, subst, ◌∙◌, IsTrue, IsPermutation, length}
use Rattle.std.proofs.lemmas.List.{length-map, map-append}
use Rattle.std.proofs.lemmas.List.Sorted.{IsPermutation-trans, IsPermutation-cons, IsPermutation-map, IsPermutation-append, length_permutation}
use Rattle.sqlite.specs.declared.types.Value.TheVariants.{Null, Int}
use Rattle.sqlite.specs.Order.{Row}
use Rattle.sqlite.specs.Table.{Table}
use Rattle.sqlite.specs.Schema.{Schema}
use Rattle.sqlite.specs.Edit.{Edit, edit_of, next_rowid, with_rowid, Applies, put_all, are_fresh}
use Rattle.sqlite.specs.Cast.{cast_row}
use Rattle.sqlite.specs.Rowids.TheVariants.{Chosen, Given}
use Rattle.sqlite.specs.Effect.{Database}
use Rattle.sqlite.specs.Tree.{Trees}
use Rattle.sqlite_schema.specs.declared.schema.Keys.TheVariants.{Enforced}
use Rattle.sqlite_trees.specs.Tree.{rowid, put_row}
use Rattle.sqlite_trees.specs.View.{is_int}
use Rattle.sqlite.proofs.Callers.{one_step}
use Rattle.sqlite.specs.Term.{Term, col}
use Rattle.sqlite.specs.Query.{Output}
use Rattle.sqlite_rules.specs.Edit.{id_in, without_all}
use Rattle.sqlite_rules.specs.Calls.{ids_of}
use Rattle.sqlite_keyed.proofs.ListLemmas.{map-map, map_same, filter-map, filter_same, IsPermutation-filter, all_from_test}
use Rattle.sqlite_rules.proofs.PlaceLemmas.{given}
use Rattle.opc_store_sql.proofs.Queries.{Lists, passes, shown}
use Rattle.opc_store_sql.specs.Rows.{IsKept, HasRows}
use Rattle.opc_store_sql.proofs.Steps.{Edits, nothing_goes}
use Rattle.opc_store_sql.proofs.Rows.{put_all_fresh, put_all_kept, left_is, filter_kept}

module _ (schema : Schema) (table : Table) (source : Row) (old : Trees) (new : Database)
    (edits : Edits schema (edit_of old table [] Chosen 0 (source ∷ [])) old new) where
  pub applied : Applies schema Enforced old (edit_of old table [] Chosen 0 (source ∷ [])) new.trees
  applied = one_step schema Enforced old new.trees (edit_of old table [] Chosen 0 (source ∷ []))
      (nothing_goes schema Enforced table.tree (edit_of old table [] Chosen 0 (source ∷ [])).news) edits.writes

  abbrev edit : Row → Edit
  edit row = record { table = table; gone = []; news = row ∷ [] }

  added : (row : Row) → IsTrue (is_int (rowid row)) → Applies schema Enforced old (edit row) new.trees → IsKept (old table.tree)
      → IsPermutation (row ∷ old table.tree) (new.trees table.tree) × IsKept (new.trees table.tree)
  added row int done kept = (
    subst (IsPermutation (row ∷ old table.tree)) (sym done.rows) (put_all_fresh (row ∷ []) (old table.tree) done.fresh),
    subst IsKept (sym done.rows) (put_all_kept (row ∷ []) (old table.tree) (int, tt) kept),
  )

  -- in a table with rowids of its own
  pub adds_row : (values : Row) → cast_row table source ≡ Null ∷ values → (have : List Row)
      → HasRows have (old table.tree) → HasRows (values ∷ have) (new.trees table.tree)
  adds_row values cast have h =
      let row : Row = Int (next_rowid (old table.tree)) ∷ values in
      let done : Applies schema Enforced old (edit row) new.trees = subst (λ (r : Row). Applies schema Enforced old (record {
        table = table;
        gone = [];
        news = with_rowid Chosen (old table.tree) r ∷ [];
      }) new.trees) cast applied in
      let it = added row refl done h.kept in
      record { each = IsPermutation-trans _ _ _ (IsPermutation-cons values _ _ h.each) (IsPermutation-map (λ (r : Row). drop 1 r) _ _ it.0); kept = it.1 }

  -- in a table whose key is the rowid, one above the last
  pub adds_last : (values : Row) → cast_row table source ≡ Null ∷ values
      → new.trees table.tree ≡ put_row (Int (next_rowid (old table.tree)) ∷ values) (old table.tree)
  adds_last values cast = (subst (λ (r : Row). Applies schema Enforced old (record {
    table = table;
    gone = [];
    news = with_rowid Chosen (old table.tree) r ∷ [];
  }) new.trees) cast applied).rows

  -- in a table whose key is the rowid, at a number that is given
  pub adds_given : (id : ℤ) (values : Row) → cast_row table source ≡ Int id ∷ values → new.trees table.tree ≡ put_row (Int id ∷ values) (old table.tree)
  adds_given id values cast = (subst (λ (r : Row). Applies schema Enforced old (record {
    table = table;
    gone = [];
    news = with_rowid Chosen (old table.tree) r ∷ [];
  }) new.trees) cast applied).rows

-- ---- rows that pass a test are removed, or replaced

module _ (schema : Schema) (table : Table) (tests more : List Term) (params : Row) (old : Trees) (new : Database) (rows : List Row)
    (lists : Lists table.tree tests (col 1 0 ∷ more) [] old params rows) where
  abbrev pub meets : Row → Bool
  meets = passes table.tree tests (col 1 0 ∷ more) [] old params

  -- the rowids of the rows that pass
  pub ids_same : IsPermutation (ids_of (filter meets (old table.tree))) (ids_of rows)
  ids_same =
      let f = λ (o : Output). id_in (rowid o.1) in
      let first = map-map f (shown table.tree tests (col 1 0 ∷ more) [] old params) (filter meets (old table.tree)) in
      let last : map f lists.ordered ≡ ids_of rows =
      sym (map-map (λ (r : Row). id_in (rowid r)) (λ (o : Output). o.1) lists.ordered)
      ∙ ap ids_of (sym lists.are) in
      subst (λ (l : List ℤ). IsPermutation l (ids_of rows)) first (subst (IsPermutation _) last (IsPermutation-map f _ _ lists.same))

  pub left : IsKept (old table.tree) → without_all (old table.tree) (ids_of rows) ≡ filter (λ r. not (meets r)) (old table.tree)
  left kept = left_is meets (old table.tree) rows kept ids_same

  module _ (q : Row → Bool) (same : (r : Row) → meets r ≡ q (drop 1 r)) (have : List Row) (has : HasRows have (old table.tree)) where
    -- the values of the rows that stay
    others_left : IsPermutation (filter (λ v. not (q v)) have) (map (λ (r : Row). drop 1 r) (filter (λ r. not (meets r)) (old table.tree)))
    others_left =
        let db = old table.tree in
        let moved : filter (λ v. not (q v)) (map (λ (r : Row). drop 1 r) db) ≡ map (λ (r : Row). drop 1 r) (filter (λ r. not (meets r)) db) =
        filter-map (λ v. not (q v)) (λ (r : Row). drop 1 r) db ∙ ap (map (λ (r : Row). drop 1 r)) (filter_same _ _ (λ r. ap not (sym (same r))) db) in
        subst (IsPermutation (filter (λ v. not (q v)) have)) moved (IsPermutation-filter (λ v. not (q v)) _ _ has.each)

    pub removes : Applies schema Enforced old (edit_of old table (ids_of rows) Given 0 []) new.trees
        → HasRows (filter (λ v. not (q v)) have) (new.trees table.tree)
    removes done =
        let is : new.trees table.tree ≡ filter (λ r. not (meets r)) (old table.tree) = done.rows ∙ left has.kept in
        subst (HasRows (filter (λ v. not (q v)) have)) (sym is) (record { each = others_left; kept = filter_kept (λ r. not (meets r)) _ has.kept })

    -- the rows that pass get these values, which are the same for each
    module _ (values : Row) (set : (r : Row) → drop 1 (cast_row table (drop 1 (shown table.tree tests (col 1 0 ∷ more) [] old params r).1)) ≡ values) where
      abbrev news : List Row
      news = map (λ (s : Row). cast_row table (drop 1 s)) rows

      abbrev change : Edit
      change = record { table = table; gone = ids_of rows; news = news }

      news_are : IsPermutation (map (λ (v : Row). values) (filter q have)) (map (λ (r : Row). drop 1 r) news)
      news_are =
          let db = filter meets (old table.tree) in
          let f = λ (row : Row). drop 1 (cast_row table (drop 1 row)) in
          let show = shown table.tree tests (col 1 0 ∷ more) [] old params in
          let one : map (λ (o : Output). f o.1) (map show db) ≡ map (λ (r : Row). values) db = map-map (λ (o : Output). f o.1) show db ∙ map_same _ _ set db in
          let two : map (λ (o : Output). f o.1) lists.ordered ≡ map (λ (r : Row). drop 1 r) news =
          sym (map-map f (λ (o : Output). o.1) lists.ordered)
          ∙ (ap (map f) (sym lists.are)
          ∙ sym (map-map (λ (r : Row). drop 1 r) (λ (s : Row). cast_row table (drop 1 s)) rows)) in
          let same_rows : IsPermutation (map (λ (r : Row). values) db) (map (λ (r : Row). drop 1 r) news) =
          subst (λ (l : List Row). IsPermutation l (map (λ (r : Row). drop 1 r) news)) one
          (subst (IsPermutation _) two (IsPermutation-map (λ (o : Output). f o.1) _ _ lists.same)) in
          let moved : filter q (map (λ (r : Row). drop 1 r) (old table.tree)) ≡ map (λ (r : Row). drop 1 r) db =
          filter-map q (λ (r : Row). drop 1 r) (old table.tree) ∙ ap (map (λ (r : Row). drop 1 r)) (filter_same _ _ (λ r. sym (same r)) (old table.tree)) in
          let hit : IsPermutation (filter q have) (map (λ (r : Row). drop 1 r) db) =
          subst (IsPermutation (filter q have)) moved (IsPermutation-filter q _ _ has.each) in
          let consts : IsPermutation (map (λ (v : Row). values) (filter q have)) (map (λ (r : Row). values) db) =
          subst (IsPermutation _) (map-map (λ (v : Row). values) (λ (r : Row). drop 1 r) db) (IsPermutation-map (λ (v : Row). values) _ _ hit) in
          IsPermutation-trans _ _ _ consts same_rows

      pub counts : (count : ℕ) → count ≡ length (edit_of old table (ids_of rows) Given 1 rows).news → count ≡ length (filter q have)
      counts count is =
          is ∙ (ap length (given (without_all (old table.tree) (ids_of rows)) news)
          ∙ (sym (length-map news (λ (r : Row). drop 1 r)) ∙ (length_permutation _ _ news_are ∙ length-map (filter q have) (λ (v : Row). values))))

      pub replaces : Applies schema Enforced old change new.trees
          → HasRows (map (λ (v : Row). values) (filter q have) ++ filter (λ v. not (q v)) have) (new.trees table.tree)
      replaces done =
          let gone = left has.kept in
          let rest = filter (λ r. not (meets r)) (old table.tree) in
          let is : new.trees table.tree ≡ put_all rest news = done.rows ∙ ap (λ (l : List Row). put_all l news) gone in
          let fresh : are_fresh rest news ≡ true = subst (λ (l : List Row). are_fresh l news ≡ true) gone done.fresh in
          let put : IsPermutation (map (λ (r : Row). drop 1 r) news ++ map (λ (r : Row). drop 1 r) rest) (map (λ (r : Row). drop 1 r) (put_all rest news)) =
          subst (λ (l : List Row). IsPermutation l (map (λ (r : Row). drop 1 r) (put_all rest news)))
          (map-append (λ (r : Row). drop 1 r) news rest)
          (IsPermutation-map (λ (r : Row). drop 1 r) _ _ (put_all_fresh news rest fresh)) in
          let whole = IsPermutation-trans _ _ _ (IsPermutation-append _ _ _ _ news_are others_left) put in
          subst (HasRows _) (sym is) (record {
            each = whole;
            kept = put_all_kept news rest (all_from_test _ news done.keyed) (filter_kept (λ r. not (meets r)) _ has.kept);
          })
