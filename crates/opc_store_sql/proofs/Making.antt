-- What CREATE TABLE and CREATE INDEX do, one after another.
use Rattle.std.proofs.Common.{◌≡◌, ℕ, List, [], ◌∷◌, ◌++◌, map, fold, slice_get, false, None, Some, Ok, sym, ap, subst, subst₂, append-nil, ◌∙◌}
use Rattle.std.proofs.lemmas.List.{append_assoc}
use Rattle.std.specs.Bool.{⊤}
use Rattle.sqlite_trees.specs.declared.store.Store.{Ghosts}
use Rattle.sqlite.specs.Order.{Row}
use Rattle.sqlite.specs.Table.{Table}
use Rattle.sqlite.specs.Tree.{Trees}
use Rattle.sqlite_schema.specs.declared.schema.Index.{Index}
use Rattle.sqlite.specs.Schema.{Schema}
use Rattle.sqlite.specs.Command.TheVariants.{CreateTable, CreateIndex}
use Rattle.sqlite.specs.Compile.{table_defined_by}
use Rattle.sqlite_resolve.specs.Compile.{index_defined_by}
use Rattle.sqlite_catalog.specs.Change.{indexed}
use Rattle.sqlite.specs.Change.{created, next_tree, KeepsRows}
use Rattle.sqlite.specs.Effect.{Database, IsDatabase}
use Rattle.sqlite.specs.Does.{Tally, Does, lacks_sequence}
use Rattle.sqlite.specs.Listing.{understood}
use Rattle.sqlite.specs.Held.{Held, state}
use Rattle.sqlite.specs.State.{State, Executes, mode_of}
use Rattle.sqlite.proofs.Callers.{IsPlain, command_of, statement_of, runs_as}
use Rattle.opc_store_sql.specs.Rows.{IsFilled, AreFilled, HasTables}
use Rattle.opc_store_sql.specs.Shapes.{no_schema, indexed_at}
use Rattle.opc_store_sql.specs.Steps.{RanAll}
use Rattle.opc_store_sql.proofs.OtherTables.{none_filled, filled_kept}
use Rattle.opc_store_sql.proofs.Steps.{went, same_value}

-- the statement is a plain CREATE TABLE of the table, beside what is there; of texts that are written out `refl` shows
-- each part
abbrev pub Defines : Schema → List ℕ → Table → Type 0
Defines schema sql table =
    (command_of (understood schema sql) ≡ CreateTable) × IsPlain (understood schema sql)
    × (table_defined_by (statement_of sql (understood schema sql)) ≡ Ok table)
    × (lacks_sequence (created schema table) ≡ false)

-- the table is there, without rows, and the others have theirs
pub record Created (schema : Schema) (table : Table) (old new : Database) : Type 0 where
  pub schema_is : new.schema ≡ created schema table
  pub sound : IsDatabase new
  pub fresh : new.trees (next_tree schema) ≡ []
  pub others : KeepsRows schema.tables old.trees new.trees

pub creates_alone : (schema : Schema) (sql : List ℕ) (table : Table) → Defines schema sql table
    → (old new : State) (count : ℕ) → old.now.schema ≡ schema → Executes sql [] old new (Ok count)
    → Created schema table old.now new.now
creates_alone schema sql table defines old new count has h =
    let w = runs_as sql [] old new schema has CreateTable defines.0 defines.1 count h in
    let all = went w.changed in
    let first = went all.1 in
    let made = first.1 in
    let both : Ok made.table ≡ Ok table = sym made.defined ∙ defines.2 in
    let same : made.table ≡ table = cc in
    let schema_now : first.0.schema ≡ created schema table = made.is ∙ ap (λ s. created s made.table) has ∙ ap (created schema) same in
    let plain_now : lacks_sequence first.0.schema ≡ false = ap lacks_sequence schema_now ∙ defines.3 in
    let now : new.now ≡ first.0 = ap (λ (p : Tally × Database). p.1) (same_value all.2) ∙ same_value (rw plain_now at first.2) in
    record {
      schema_is = ap (λ (d : Database). d.schema) now ∙ schema_now;
      sound = w.sound;
      fresh = ap (λ (d : Database). d.trees (next_tree schema)) now ∙ subst (λ s. first.0.trees (next_tree s) ≡ []) has made.empty;
      others = subst (λ (d : Database). KeepsRows schema.tables old.now.trees d.trees) (sym now)
          (subst (λ (s : Schema). KeepsRows s.tables old.now.trees first.0.trees) has made.others);
    }

-- the statement is a plain CREATE INDEX of the index, on the table at its place
abbrev pub DefinesIndex : Schema → List ℕ → ℕ × Index → Type 0
DefinesIndex schema sql i =
    (command_of (understood schema sql) ≡ CreateIndex i.0) × IsPlain (understood schema sql)
    × (table : Table) × (slice_get schema.tables i.0 ≡ Some table)
    × (index_defined_by table (statement_of sql (understood schema sql)) ≡ Ok (record i.1 { table = table.tree }))

-- the index is there, and the tables have their rows
pub record Indexed (schema : Schema) (i : ℕ × Index) (old new : Database) : Type 0 where
  pub schema_is : new.schema ≡ indexed_at schema i
  pub sound : IsDatabase new
  pub others : KeepsRows schema.tables old.trees new.trees

pub indexes_alone : (schema : Schema) (sql : List ℕ) (i : ℕ × Index) → DefinesIndex schema sql i
    → (old new : State) (count : ℕ) → old.now.schema ≡ schema → Executes sql [] old new (Ok count)
    → Indexed schema i old.now new.now
indexes_alone schema sql i defines old new count has h =
    let w = runs_as sql [] old new schema has (CreateIndex i.0) defines.0 defines.1 count h in
    let table = defines.2 in
    let found = defines.3 in
    let does = rw found at (subst (λ s. Does old.step_limit (mode_of old) [] (record {
      schema = s;
      trees = old.now.trees;
    }) (statement_of sql (understood schema sql)) None (CreateIndex i.0) (Ok (w.tally, new.now))) has w.changed) in
    let all = went does in
    let made = all.1 in
    let both : Ok made.index ≡ Ok (record i.1 { table = table.tree }) = sym made.defined ∙ defines.4 in
    let same : made.index ≡ record i.1 { table = table.tree } = same_value both in
    let now : new.now ≡ all.0 = ap (λ (p : Tally × Database). p.1) (same_value all.2) in
    let here : indexed schema table i.1 ≡ indexed_at schema i = rw found in
    record {
      schema_is = ap (λ (d : Database). d.schema) now ∙ made.is ∙ ap (indexed schema table) same ∙ here;
      sound = w.sound;
      others = subst (λ (d : Database). KeepsRows schema.tables old.now.trees d.trees) (sym now) made.rows;
    }

-- ---- many of them

one_more : (tables : List Table) (all : List (List Row)) (table : Table) (rows : List Row) (trees : Trees)
    → AreFilled tables all trees → IsFilled table rows trees
    → AreFilled (tables ++ table ∷ []) (all ++ rows ∷ []) trees
one_more [] [] table rows trees h has = (has, tt)
one_more [] (first ∷ all) table rows trees h has = absurd h
one_more (t ∷ tables) [] table rows trees h has = absurd h
one_more (t ∷ tables) (first ∷ all) table rows trees h has = (h.0, one_more tables all table rows trees h.1 has)

-- no rows of any of these
abbrev pub no_rows_of : List Table → List (List Row)
no_rows_of tables = map (λ (t : Table). []) tables

abbrev at_next : Schema → Table → Table
at_next schema table = record table { tree = next_tree schema }

made_then : (schema : Schema) (table : Table) (all : List (List Row)) (old new : Database)
    → AreFilled schema.tables all old.trees → Created schema table old new
    → HasTables (created schema table) (all ++ [] ∷ []) new
made_then schema table all old new was h = record {
  schema_is = h.schema_is;
  sound = h.sound;
  filled = one_more schema.tables all (at_next schema table) [] new.trees
      (filled_kept schema.tables all old.trees new.trees h.others was)
      (none_filled table.key (new.trees (next_tree schema)) h.fresh);
}

-- an index adds no table
same_tables : (schema : Schema) (i : ℕ × Index) (table : Table) → slice_get schema.tables i.0 ≡ Some table → (indexed_at schema i).tables ≡ schema.tables
same_tables schema i table found = rw found

indexed_then : (schema : Schema) (i : ℕ × Index) (table : Table) → slice_get schema.tables i.0 ≡ Some table
    → (all : List (List Row)) (old new : Database) → AreFilled schema.tables all old.trees
    → Indexed schema i old new → HasTables (indexed_at schema i) all new
indexed_then schema i table found all old new was h = record {
  schema_is = h.schema_is;
  sound = h.sound;
  filled = subst (λ (l : List Table). AreFilled l all new.trees) (sym (same_tables schema i table found))
      (filled_kept schema.tables all old.trees new.trees h.others was);
}

-- each statement defines its table, beside those before it
abbrev pub AreDefined : Schema → List (List ℕ) → List Table → Type 0
AreDefined schema [] [] = ⊤
AreDefined schema [] (table ∷ tables) = ⊥
AreDefined schema (sql ∷ more) [] = ⊥
AreDefined schema (sql ∷ more) (table ∷ tables) = Defines schema sql table × AreDefined (created schema table) more tables

-- each statement defines its index, beside those before it
abbrev pub AreIndexed : Schema → List (List ℕ) → List (ℕ × Index) → Type 0
AreIndexed schema [] [] = ⊤
AreIndexed schema [] (i ∷ indexes) = ⊥
AreIndexed schema (sql ∷ more) [] = ⊥
AreIndexed schema (sql ∷ more) (i ∷ indexes) = DefinesIndex schema sql i × AreIndexed (indexed_at schema i) more indexes

module _ {S : Type 0} (g : Ghosts S) where
  -- beside what is there the statements make their tables, without rows
  pub makes_more : (schema : Schema) (texts : List (List ℕ)) (tables : List Table) (all : List (List Row))
      (old new : Held S) → AreDefined schema texts tables → HasTables schema all (state g old).now
      → RanAll g texts old new → HasTables (fold created schema tables) (all ++ no_rows_of tables) (state g new).now
  makes_more schema [] [] all old new defined was ran =
      subst₂ (λ (l : List (List Row)) (h : Held S). HasTables schema l (state g h).now) (sym (append-nil all)) (sym ran)
      was
  makes_more schema [] (table ∷ tables) all old new defined was ran = absurd defined
  makes_more schema (sql ∷ more) [] all old new defined was ran = absurd defined
  makes_more schema (sql ∷ more) (table ∷ tables) all old new defined was ran =
      let made = creates_alone schema sql table defined.0 (state g old) (state g ran.0) ran.1 was.schema_is ran.2.executes in
      subst (λ (l : List (List Row)). HasTables (fold created schema (table ∷ tables)) l (state g new).now) (append_assoc all ([] ∷ []) (no_rows_of tables))
      (makes_more (created schema table) more tables (all ++ [] ∷ []) ran.0 new defined.1 (made_then schema table all _ _ was.filled made) ran.3)

  -- if nothing is defined, they make their tables, and nothing else
  pub makes_all : (texts : List (List ℕ)) (table : Table) (tables : List Table) (old new : Held S)
      → (state g old).now.schema ≡ no_schema → RanAll g texts old new → AreDefined no_schema texts (table ∷ tables)
      → HasTables (fold created no_schema (table ∷ tables)) (no_rows_of (table ∷ tables)) (state g new).now
  makes_all [] table tables old new none ran defined = absurd defined
  makes_all (sql ∷ more) table tables old new none ran defined =
      let made = creates_alone no_schema sql table defined.0 (state g old) (state g ran.0) ran.1 none ran.2.executes in
      makes_more (created no_schema table) more tables ([] ∷ []) ran.0 new defined.1 (made_then no_schema table [] _ _ tt made) ran.3

  -- the statements make their indexes, and the tables have their rows
  pub makes_indexes : (schema : Schema) (texts : List (List ℕ)) (indexes : List (ℕ × Index)) (all : List (List Row))
      (old new : Held S) → AreIndexed schema texts indexes
      → HasTables schema all (state g old).now → RanAll g texts old new → HasTables (fold indexed_at schema indexes) all (state g new).now
  makes_indexes schema [] [] all old new defined was ran = subst (λ (h : Held S). HasTables schema all (state g h).now) (sym ran) was
  makes_indexes schema [] (i ∷ indexes) all old new defined was ran = absurd defined
  makes_indexes schema (sql ∷ more) [] all old new defined was ran = absurd defined
  makes_indexes schema (sql ∷ more) (i ∷ indexes) all old new defined was ran =
      let made = indexes_alone schema sql i defined.0 (state g old) (state g ran.0) ran.1 was.schema_is ran.2.executes in
      makes_indexes (indexed_at schema i) more indexes all ran.0 new defined.1 (indexed_then schema i defined.0.2 defined.0.3 all _ _ was.filled made) ran.3
