-- What a query of one table returns.
use Rattle.std.proofs.Common.{
  ◌≡◌,
  ℕ,
  ◌-◌,
  ◌^◌,
  nat_le,
  pos,
  negsuc,
  List,
  [],
  ◌∷◌,
  ◌++◌,
  map,
  filter,
  Bool,
  true,
  false,
  cond,
  None,
  refl,
  ap,
  subst,
  ◌∙◌,
  IsPermutation,
  IsSorted,
  slice_get,
}
use Rattle.std.specs.List.{list_all, flat_map}
use Rattle.sqlite_value.specs.declared.value.Value.TheVariants.{Null, Int}
use Rattle.sqlite_value.specs.declared.keys.Key.{Key}
use Rattle.sqlite_value.specs.Order.{Row}
use Rattle.sqlite.specs.Term.{Term, Env, lit, eval, holds}
use Rattle.sqlite.specs.Query.{Query, inner, end, Output, output, output_cmp, IsAnswer, as_count, limited}
use Rattle.sqlite.specs.Program.{overlay}
use Rattle.sqlite_schema.specs.declared.program.Program.{Program}
use Rattle.sqlite.specs.Effect.{Answers}
use Rattle.sqlite.specs.Tree.{Trees}
use Rattle.sqlite.specs.Schema.{Schema}
use Rattle.sqlite_keyed.proofs.ListLemmas.{map-map}

-- a query of one table
abbrev pub selecting : ℕ → List Term → List Term → List (Term × Key) → Query
selecting tree tests project order = record {
  from = inner tree end;
  filter = tests;
  group = None;
  project = project;
  distinct = false;
  collations = [];
  order = order;
  limit = lit (Int (negsuc 0));
  offset = lit (Int (pos 0));
}

-- the same with LIMIT
abbrev pub paging : ℕ → List Term → List Term → List (Term × Key) → Term → Query
paging tree tests project order limit = record (selecting tree tests project order) { limit = limit }

abbrev pub alone : Query → Program
alone q = record { lets = []; body = q }

overlay_none : (db : Trees) (t : ℕ) → overlay db [] t ≡ db t
overlay_none db t = go (nat_le (2 ^ 31) t) (t - 2 ^ 31)
  where
    go : (b : Bool) (i : ℕ) → Rattle.std.specs.Prelude.unwrap_or (cond b (slice_get {X = List Row} [] i) None) (db t) ≡ db t
    go true i = refl
    go false i = refl

kept_rows : (params : Row) (tests : List Term) (rows : List Row)
    → flat_map (λ (r : Row). cond (list_all (holds (params ∷ r ∷ [])) tests) ((params ∷ r ∷ []) ∷ []) []) rows ≡ map
    (λ (r : Row). params ∷ r ∷ []) (filter (λ r. list_all (holds (params ∷ r ∷ [])) tests) rows)
kept_rows params tests [] = refl
kept_rows params tests (r ∷ rows) = go (list_all (holds (params ∷ r ∷ [])) tests) (kept_rows params tests rows)
  where
    go : (b : Bool)
        → flat_map (λ (r : Row). cond (list_all (holds (params ∷ r ∷ [])) tests) ((params ∷ r ∷ []) ∷ []) []) rows ≡ map
        (λ (r : Row). params ∷ r ∷ []) (filter (λ r. list_all (holds (params ∷ r ∷ [])) tests) rows)
        → cond b ((params ∷ r ∷ []) ∷ []) [] ++ flat_map (λ (r : Row). cond (list_all (holds (params ∷ r ∷ [])) tests) ((params ∷ r ∷ []) ∷ []) []) rows
        ≡ map (λ (r : Row). params ∷ r ∷ [])
        (cond b (r ∷ filter (λ r. list_all (holds (params ∷ r ∷ [])) tests) rows)
        (filter (λ r. list_all (holds (params ∷ r ∷ [])) tests) rows))
    go true more = ap (λ (l : List Env). (params ∷ r ∷ []) ∷ l) more
    go false more = more

module _ (tree : ℕ) (tests project : List Term) (order : List (Term × Key)) (db : Trees) (params : Row) where
  abbrev query : Query
  query = selecting tree tests project order

  abbrev pub passes : Row → Bool
  passes r = list_all (holds (params ∷ r ∷ [])) tests

  abbrev pub shown : Row → Output
  shown r = output query (params ∷ r ∷ [])

  -- the rows that pass, in an order that ORDER BY allows
  pub record Lists (rows : List Row) : Type 0 where
    pub ordered : List Output
    pub same : IsPermutation (map shown (filter passes (db tree))) ordered
    pub sorted : IsSorted (output_cmp query) ordered
    pub are : rows ≡ map (λ (o : Output). o.1) ordered

  pub answered : (schema : Schema) (rows : List Row) → Answers (record { schema = schema; trees = db }) (alone query) params rows → Lists rows
  answered schema rows h =
      let a : IsAnswer query (overlay db []) params rows = h.answer Null in
      let staged : a.staged ≡ map (λ (r : Row). params ∷ r ∷ []) (filter passes (db tree)) =
      a.grouped ∙ (ap
      (flat_map (λ (r : Row). cond (list_all (holds (params ∷ r ∷ [])) tests) ((params ∷ r ∷ []) ∷ []) []))
      (overlay_none db tree) ∙ kept_rows params tests (db tree)) in
      let kept : a.kept ≡ map shown (filter passes (db tree)) =
      a.distinct ∙ (ap (map (output query)) staged
      ∙ map-map (output query) (λ (r : Row). params ∷ r ∷ []) (filter passes (db tree))) in
      record { ordered = a.ordered; same = subst (λ (k : List Output). IsPermutation k a.ordered) kept a.same; sorted = a.sorted; are = a.shown }

  -- with LIMIT, the first of the rows that it would give without
  pub record Pages (limit : Term) (rows : List Row) : Type 0 where
    pub all : List Row
    pub lists : Lists all
    pub are : rows ≡ limited (as_count (eval limit (params ∷ []))) all

  pub paged : (schema : Schema) (limit : Term) (rows : List Row) → Answers (record {
    schema = schema;
    trees = db;
  }) (alone (paging tree tests project order limit)) params rows → Pages limit rows
  paged schema limit rows h =
      let a : IsAnswer (paging tree tests project order limit) (overlay db []) params rows = h.answer Null in
      let staged : a.staged ≡ map (λ (r : Row). params ∷ r ∷ []) (filter passes (db tree)) =
      a.grouped ∙ (ap
      (flat_map (λ (r : Row). cond (list_all (holds (params ∷ r ∷ [])) tests) ((params ∷ r ∷ []) ∷ []) []))
      (overlay_none db tree) ∙ kept_rows params tests (db tree)) in
      let kept : a.kept ≡ map shown (filter passes (db tree)) =
      a.distinct ∙ (ap (map (output query)) staged
      ∙ map-map (output query) (λ (r : Row). params ∷ r ∷ []) (filter passes (db tree))) in
      record {
        all = map (λ (o : Output). o.1) a.ordered;
        lists = record { ordered = a.ordered; same = subst (λ (k : List Output). IsPermutation k a.ordered) kept a.same; sorted = a.sorted; are = refl };
        are = a.shown;
      }
