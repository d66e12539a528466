-- What INSERT, UPDATE and DELETE on one table leave, in rows of values.
use Rattle.std.proofs.Common.{
  ◌≡◌,
  ◌≢◌,
  ℕ,
  ◌/◌,
  ℤ,
  List,
  [],
  ◌∷◌,
  ◌++◌,
  map,
  filter,
  not,
  drop,
  length,
  Bool,
  Ok,
  Some,
  sym,
  ap,
  subst,
  ◌∙◌,
  slice_get,
  arith,
  Ordering,
  is_eq,
}
use Rattle.std.specs.List.{AllByRecursion}
use Rattle.std.specs.BTreeSet.{replace_key}
use Rattle.std.specs.Cmp.{IsTotalOrder}
use Rattle.std.proofs.lemmas.List.{length-map}
use Rattle.std.proofs.lemmas.List.Sorted.{IsPermutation-trans, IsPermutation-map}
use Rattle.sqlite.specs.declared.types.Value.TheVariants.{Null, Int}
use Rattle.sqlite.specs.Order.{Row}
use Rattle.sqlite.specs.Term.{Term, col}
use Rattle.sqlite.specs.Table.{Table}
use Rattle.sqlite.specs.Schema.{Schema}
use Rattle.sqlite.specs.Tree.{Trees}
use Rattle.sqlite.specs.Command.TheVariants.{Insert, Update, Delete}
use Rattle.sqlite.specs.Source.TheVariants.{Values}
use Rattle.sqlite.specs.Cast.{cast_row}
use Rattle.sqlite.specs.Edit.{Edit, edit_of, next_rowid, taken_by, Applies}
use Rattle.sqlite.specs.Effect.{Database, IsDatabase, value_rows}
use Rattle.sqlite.specs.Rowids.TheVariants.{Chosen, Given}
use Rattle.sqlite.specs.Listing.{understood}
use Rattle.sqlite.specs.State.{State, Executes}
use Rattle.sqlite.proofs.Callers.{IsPlain, command_of}
use Rattle.sqlite_trees.specs.Tree.{put_row}
use Rattle.sqlite_rules.specs.Action.{works, Writes as WritesEdit}
use Rattle.sqlite_rules.specs.Edit.{without_all}
use Rattle.sqlite_rules.proofs.PlaceLemmas.{given}
use Rattle.sqlite.proofs.Callers.{one_step}
use Rattle.sqlite_rules.specs.Calls.{ids_of}
use Rattle.sqlite_schema.specs.declared.schema.Keys.TheVariants.{Enforced}
use Rattle.sqlite_keyed.proofs.ListLemmas.{filter-map, filter_same}
use Rattle.opc_store_sql.specs.Rows.{IsKept, HasRows}
use Rattle.opc_store_sql.specs.Order.{Rises}
use Rattle.opc_store_sql.proofs.Steps.{inserts, updates, deletes, Edits, IsSimple}
use Rattle.opc_store_sql.proofs.Queries.{selecting, alone, answered, passes, shown, Lists}
use Rattle.opc_store_sql.proofs.Edits.{adds_row, adds_last, adds_given, applied, left as left_alone, removes, replaces, counts}
use Rattle.opc_store_sql.proofs.Sets.{replaced_is, others, one_at}

-- the schema, the rules and the other tables stay
pub record Spares (schema : Schema) (table : Table) (old : Trees) (new : Database) : Type 0 where
  pub schema_is : new.schema ≡ schema
  pub sound : IsDatabase new
  pub tables : AllByRecursion (λ (t : Table). t.tree ≢ table.tree → new.trees t.tree ≡ old t.tree) schema.tables

-- one more row
pub record Adds (schema : Schema) (table : Table) (values : Row) (old : Trees) (new : Database) : Type 0 where
  pub spares : Spares schema table old new
  pub rows : (have : List Row) → HasRows have (old table.tree) → HasRows (values ∷ have) (new.trees table.tree)

-- one more row, at the number after the last
pub record AddsLast (schema : Schema) (table : Table) (values : Row) (old : Trees) (new : Database) : Type 0 where
  pub spares : Spares schema table old new
  pub rows : new.trees table.tree ≡ put_row (Int (next_rowid (old table.tree)) ∷ values) (old table.tree)

-- one more row, at this number
pub record AddsAt (schema : Schema) (table : Table) (id : ℤ) (values : Row) (old : Trees) (new : Database) : Type 0 where
  pub spares : Spares schema table old new
  pub rows : new.trees table.tree ≡ put_row (Int id ∷ values) (old table.tree)

-- the rows that pass are removed, with their numbers
pub record TakesNumbers (schema : Schema) (table : Table) (p : Row → Bool) (old : Trees) (new : Database) : Type 0 where
  pub spares : Spares schema table old new
  pub rows : IsKept (old table.tree) → new.trees table.tree ≡ filter (λ r. not (p r)) (old table.tree)

-- the rows that pass are removed
pub record Takes (schema : Schema) (table : Table) (q : Row → Bool) (old : Trees) (new : Database) : Type 0 where
  pub spares : Spares schema table old new
  pub rows : (have : List Row) → HasRows have (old table.tree) → HasRows (filter (λ v. not (q v)) have) (new.trees table.tree)

-- the rows that pass get these values
pub record Sets (schema : Schema) (table : Table) (q : Row → Bool) (values : Row) (count : ℕ) (old : Trees) (new : Database) : Type 0 where
  pub spares : Spares schema table old new
  pub count_is : (have : List Row) → HasRows have (old table.tree) → count ≡ length (filter q have)
  pub rows : (have : List Row) → HasRows have (old table.tree)
      → HasRows (map (λ (v : Row). values) (filter q have) ++ filter (λ v. not (q v)) have) (new.trees table.tree)

module _ (schema : Schema) (text : List ℕ) (at : ℕ) (table : Table) (params : Row)
    (plain : IsPlain (understood schema text)) (found : slice_get schema.tables at ≡ Some table)
    (old new : State) (has : old.now.schema ≡ schema) (count : ℕ) where
  module _ (terms : List Term) (width : ℕ) (is : command_of (understood schema text) ≡ Insert at (Values terms width)) (simple : IsSimple table)
      (values : Row) (gives : value_rows params width (length terms / width) terms ≡ (Null ∷ values) ∷ [])
      (stored : cast_row table (Null ∷ values) ≡ Null ∷ values) where
    edits : Executes text params old new (Ok count) → Edits schema (edit_of old.now.trees table [] Chosen 0 ((Null ∷ values) ∷ [])) old.now.trees new.now
    edits h =
        let it = inserts schema text at table params plain found old new has count (Values terms width) is simple h in
        subst (λ (rows : List Row). Edits schema (edit_of old.now.trees table [] Chosen 0 rows) old.now.trees new.now) (it.1.1 ∙ gives) it.2

    spared : Edits schema (edit_of old.now.trees table [] Chosen 0 ((Null ∷ values) ∷ [])) old.now.trees new.now → Spares schema table old.now.trees new.now
    spared e = record { schema_is = e.schema_is; sound = e.sound; tables = (applied schema table (Null ∷ values) old.now.trees new.now e).tables }

    pub adds : Executes text params old new (Ok count) → Adds schema table values old.now.trees new.now
    adds h = record { spares = spared (edits h); rows = adds_row schema table (Null ∷ values) old.now.trees new.now (edits h) values stored }

    pub adds_at_end : Executes text params old new (Ok count) → AddsLast schema table values old.now.trees new.now
    adds_at_end h = record { spares = spared (edits h); rows = adds_last schema table (Null ∷ values) old.now.trees new.now (edits h) values stored }

  -- where the number is given
  pub adds_at : (terms : List Term) (width : ℕ) → command_of (understood schema text) ≡ Insert at (Values terms width) → IsSimple table
      → (id : ℤ) (values : Row) → value_rows params width (length terms / width) terms ≡ (Int id ∷ values) ∷ []
      → cast_row table (Int id ∷ values) ≡ Int id ∷ values
      → Executes text params old new (Ok count) → AddsAt schema table id values old.now.trees new.now
  adds_at terms width is simple id values gives stored h =
      let it = inserts schema text at table params plain found old new has count (Values terms width) is simple h in
      let edits = subst (λ (rows : List Row). Edits schema (edit_of old.now.trees table [] Chosen 0 rows) old.now.trees new.now) (it.1.1 ∙ gives) it.2 in
      record {
        spares = record {
          schema_is = edits.schema_is;
          sound = edits.sound;
          tables = (applied schema table (Int id ∷ values) old.now.trees new.now edits).tables;
        };
        rows = adds_given schema table (Int id ∷ values) old.now.trees new.now edits id values stored;
      }

  pub takes_numbers : (tests : List Term) → command_of (understood schema text) ≡ Delete at (alone (selecting table.tree tests (col 1 0 ∷ []) []))
      → ((rows : List Row) → works schema Enforced 0 table.tree (taken_by old.now.trees (edit_of old.now.trees table (ids_of rows) Given 0 [])) [] ≡ [])
      → Executes text params old new (Ok count)
      → TakesNumbers schema table (passes table.tree tests (col 1 0 ∷ []) [] old.now.trees params) old.now.trees
      new.now
  takes_numbers tests is idle h =
      let it = deletes schema text at table params plain found old new has count (alone (selecting table.tree tests (col 1 0 ∷ []) [])) is h in
      let lists = answered table.tree tests (col 1 0 ∷ []) [] old.now.trees params schema it.0 it.1 in
      let done = one_step schema Enforced old.now.trees new.now.trees (edit_of old.now.trees table (ids_of it.0) Given 0 []) (idle it.0) it.2.writes in
      record {
        spares = record { schema_is = it.2.schema_is; sound = it.2.sound; tables = done.tables };
        rows = λ kept. done.rows ∙ left_alone schema table tests [] params old.now.trees new.now it.0 lists kept;
      }

  module _ (tests : List Term) (q : Row → Bool) where
    abbrev pub taking : List Row → Edit
    taking rows = edit_of old.now.trees table (ids_of rows) Given 0 []

    -- if what the removal of rows sets off leaves everything else as it is
    pub takes_by : command_of (understood schema text) ≡ Delete at (alone (selecting table.tree tests (col 1 0 ∷ []) []))
        → ((r : Row) → passes table.tree tests (col 1 0 ∷ []) [] old.now.trees params r ≡ q (drop 1 r))
        → ((rows : List Row) → Lists table.tree tests (col 1 0 ∷ []) [] old.now.trees params rows
        → WritesEdit schema Enforced old.now.trees (taking rows) (Ok new.now.trees)
        → Applies schema Enforced old.now.trees (taking rows) new.now.trees)
        → Executes text params old new (Ok count) → Takes schema table q old.now.trees new.now
    takes_by is meets alone_acts h =
        let it = deletes schema text at table params plain found old new has count (alone (selecting table.tree tests (col 1 0 ∷ []) [])) is h in
        let lists = answered table.tree tests (col 1 0 ∷ []) [] old.now.trees params schema it.0 it.1 in
        let done = alone_acts it.0 lists it.2.writes in
        record {
          spares = record { schema_is = it.2.schema_is; sound = it.2.sound; tables = done.tables };
          rows = λ have stored. removes schema table tests [] params old.now.trees new.now it.0 lists q meets have stored done;
        }

    pub takes : command_of (understood schema text) ≡ Delete at (alone (selecting table.tree tests (col 1 0 ∷ []) []))
        → ((r : Row) → passes table.tree tests (col 1 0 ∷ []) [] old.now.trees params r ≡ q (drop 1 r))
        → ((rows : List Row) → works schema Enforced 0 table.tree (taken_by old.now.trees (taking rows)) [] ≡ [])
        → Executes text params old new (Ok count) → Takes schema table q old.now.trees new.now
    takes is meets idle h = takes_by is meets (λ rows lists writes. one_step schema Enforced old.now.trees new.now.trees (taking rows) (idle rows) writes) h

    abbrev pub setting : List Row → Edit
    setting rows = record { table = table; gone = ids_of rows; news = map (λ (s : Row). cast_row table (drop 1 s)) rows }

    pub sets_by : (terms : List Term) → command_of (understood schema text) ≡ Update at (alone (selecting table.tree tests (col 1 0 ∷ col 1 0 ∷ terms) []))
        → ((r : Row) → passes table.tree tests (col 1 0 ∷ col 1 0 ∷ terms) [] old.now.trees params r ≡ q (drop 1 r))
        → (values : Row)
        → ((r : Row) → drop 1 (cast_row table
        (drop 1 (shown table.tree tests (col 1 0 ∷ col 1 0 ∷ terms) [] old.now.trees params r).1)) ≡ values)
        → ((rows : List Row) → WritesEdit schema Enforced old.now.trees (setting rows) (Ok new.now.trees)
        → Applies schema Enforced old.now.trees (setting rows) new.now.trees)
        → Executes text params old new (Ok count) → Sets schema table q values count old.now.trees new.now
    sets_by terms is meets values set alone_acts h =
        let it = updates schema text at table params plain found old new has count (alone (selecting table.tree tests (col 1 0 ∷ col 1 0 ∷ terms) [])) is h in
        let lists = answered table.tree tests (col 1 0 ∷ col 1 0 ∷ terms) [] old.now.trees params schema it.0 it.1 in
        let writes : WritesEdit schema Enforced old.now.trees (setting it.0) (Ok new.now.trees) =
        subst (λ (n : List Row). WritesEdit schema Enforced old.now.trees (record {
          table = table;
          gone = ids_of it.0;
          news = n;
        }) (Ok new.now.trees)) (given (without_all (old.now.trees table.tree) (ids_of it.0)) (setting it.0).news) it.2.writes in
        let done = alone_acts it.0 writes in
        record {
          spares = record { schema_is = it.2.schema_is; sound = it.2.sound; tables = done.tables };
          count_is = λ have stored. counts schema table tests (col 1 0 ∷ terms) params old.now.trees new.now it.0 lists
              q meets have stored values set count it.3;
          rows = λ have stored. replaces schema table tests (col 1 0 ∷ terms) params old.now.trees new.now it.0 lists q meets have stored values set done;
        }

    pub sets : (terms : List Term) → command_of (understood schema text) ≡ Update at (alone (selecting table.tree tests (col 1 0 ∷ col 1 0 ∷ terms) []))
        → ((r : Row) → passes table.tree tests (col 1 0 ∷ col 1 0 ∷ terms) [] old.now.trees params r ≡ q (drop 1 r))
        → (values : Row)
        → ((r : Row) → drop 1 (cast_row table
        (drop 1 (shown table.tree tests (col 1 0 ∷ col 1 0 ∷ terms) [] old.now.trees params r).1)) ≡ values)
        → ((olds news : List Row) → works schema Enforced 0 table.tree olds news ≡ [])
        → Executes text params old new (Ok count) → Sets schema table q values count old.now.trees new.now
    sets terms is meets values set idle h =
        sets_by terms is meets values set
        (λ rows writes. one_step schema Enforced old.now.trees new.now.trees (setting rows)
        (idle (taken_by old.now.trees (setting rows)) (setting rows).news) writes) h

-- ---- the same, for a table with one row for each member of a list in the order of its key

module _ {X : Type 0} (row : X → Row) (cmp : X → X → Ordering) (total : IsTotalOrder cmp) (new : X) (q : Row → Bool)
    (picks : (x : X) → q (row x) ≡ is_eq (cmp x new)) where
  abbrev hits : List X → List X
  hits xs = filter (λ x. is_eq (cmp x new)) xs

  hit : (xs : List X) → filter q (map row xs) ≡ map row (hits xs)
  hit xs = filter-map q row xs ∙ ap (map row) (filter_same _ _ picks xs)

  left : (xs : List X) → filter (λ v. not (q v)) (map row xs) ≡ map row (others cmp total new xs)
  left xs = filter-map (λ (v : Row). not (q v)) row xs ∙ ap (map row) (filter_same _ _ (λ x. ap not (picks x)) xs)

  more_rows : (xs : List X) (rows : List Row) → Rises cmp xs
      → HasRows (row new ∷ map row (others cmp total new xs)) rows → HasRows (map row (replace_key cmp xs new)) rows
  more_rows xs rows up h = record { each = IsPermutation-trans _ _ _ (IsPermutation-map row _ _ (replaced_is cmp total new xs up)) h.each; kept = h.kept }

  none_of : (hit rest : List X) (rows : List Row) → length hit ≡ 0
      → HasRows (map (λ (v : Row). row new) (map row hit) ++ map row rest) rows → HasRows (map row rest) rows
  none_of [] rest rows none h = h
  none_of (x ∷ hit) rest rows none h = absurd (omega arith)

  one_of : (hit rest : List X) (rows : List Row) → length hit ≡ 1
      → HasRows (map (λ (v : Row). row new) (map row hit) ++ map row rest) rows → HasRows (row new ∷ map row rest) rows
  one_of [] rest rows one h = absurd (omega arith)
  one_of (x ∷ []) rest rows one h = h
  one_of (x ∷ y ∷ hit) rest rows one h = absurd (omega arith)

  module _ (schema : Schema) (table : Table) (xs : List X) (up : Rises cmp xs) where
    module _ (old : Trees) (now : Database) (stored : HasRows (map row xs) (old table.tree)) where
      -- it was removed
      pub taken : Takes schema table q old now → HasRows (map row (others cmp total new xs)) (now.trees table.tree)
      taken h = subst (λ (l : List Row). HasRows l (now.trees table.tree)) (left xs) (h.rows (map row xs) stored)

      module _ (count : ℕ) (h : Sets schema table q (row new) count old now) where
        count_hits : count ≡ length (hits xs)
        count_hits = h.count_is (map row xs) stored ∙ (ap length (hit xs) ∙ length-map (hits xs) row)

        both : HasRows (map (λ (v : Row). row new) (map row (hits xs)) ++ map row (others cmp total new xs)) (now.trees table.tree)
        both =
            subst (λ (l : List Row). HasRows (map (λ (v : Row). row new) (map row (hits xs)) ++ l) (now.trees table.tree)) (left xs)
            (subst (λ (l : List Row). HasRows (map (λ (v : Row). row new) l ++ filter (λ v. not (q v)) (map row xs))
            (now.trees table.tree)) (hit xs) (h.rows (map row xs) stored))

        -- it was there, and is replaced
        pub set : count ≢ 0 → HasRows (map row (replace_key cmp xs new)) (now.trees table.tree)
        set some =
            let once = one_at cmp total new xs up in
            let is = count_hits in
            more_rows xs _ up (one_of (hits xs) (others cmp total new xs) _ (omega arith) both)

        -- it was not there, and nothing changes
        pub missed : count ≡ 0 → HasRows (map row (others cmp total new xs)) (now.trees table.tree)
        missed none = none_of (hits xs) (others cmp total new xs) _ (sym count_hits ∙ none) both

    -- it was not there, and was added
    pub added : (old : Trees) (now : Database) → HasRows (map row (others cmp total new xs)) (old table.tree)
        → Adds schema table (row new) old now → HasRows (map row (replace_key cmp xs new)) (now.trees table.tree)
    added old now stored h = more_rows xs _ up (h.rows _ stored)
