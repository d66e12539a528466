-- What DROP TABLE does, if no foreign key acts on the table's rows.
use Rattle.std.proofs.Common.{◌≡◌, ℕ, List, [], ◌∷◌, ◌++◌, length, arith, slice_get, Bool, true, false, cond, Some, None, Ok, sym, ap, subst, ◌∙◌}
use Rattle.std.specs.Bool.{MatchBool}
use Rattle.sqlite.specs.Order.{Row}
use Rattle.sqlite.specs.Table.{Table}
use Rattle.sqlite.specs.Schema.{Schema}
use Rattle.sqlite.specs.Tree.{Trees}
use Rattle.sqlite.specs.Command.TheVariants.{DropTable}
use Rattle.sqlite.specs.Change.{without_table, KeepsRows}
use Rattle.sqlite.specs.Effect.{Database, IsDatabase}
use Rattle.sqlite.specs.Rows.{Task, sequence}
use Rattle.sqlite.specs.Does.{Tally, Does, Drops, UncountsIn, is_acted_on}
use Rattle.sqlite.specs.declared.run.Mode.{Mode}
use Rattle.sqlite_schema.specs.declared.schema.Keys.TheVariants.{Enforced}
use Rattle.sqlite.specs.Listing.{understood}
use Rattle.sqlite.specs.State.{State, Executes, mode_of}
use Rattle.sqlite.proofs.Callers.{IsPlain, command_of, statement_of, runs_as}
use Rattle.opc_store_sql.specs.Rows.{AreFilled, HasTables}
use Rattle.opc_store_sql.proofs.OtherTables.{filled_kept}
use Rattle.opc_store_sql.proofs.Steps.{went, same_value}

second : (P Q : Type 0) (b : Bool) → b ≡ false → MatchBool b P Q → Q
second P Q true none h = absurd cc
second P Q false none h = h

-- the first tables have their rows
prefix_filled : (prefix back : List Table) (all more : List (List Row)) (trees : Trees) → length all ≡ length prefix
    → AreFilled (prefix ++ back) (all ++ more) trees → AreFilled prefix all trees
prefix_filled [] back [] more trees long h = tt
prefix_filled [] back (rows ∷ all) more trees long h = absurd (omega arith)
prefix_filled (t ∷ prefix) back [] more trees long h = absurd (omega arith)
prefix_filled (t ∷ prefix) back (rows ∷ all) more trees long h = (h.0, prefix_filled prefix back all more trees (omega (arith, long)) h.1)

pub record Dropped (schema : Schema) (tree : ℕ) (old : Trees) (new : Database) : Type 0 where
  pub schema_is : new.schema ≡ without_table schema tree
  pub others : KeepsRows (without_table schema tree).tables old new.trees

module _ (task : Task) (quiet : is_acted_on task.schema task.keys task.table ≡ false) (uncounted : task.table.is_counted ≡ false) where
  dropped : (mode : Mode) (db : Trees) (tally : Tally) (after : Database) → Drops task mode db (Ok (tally, after))
      → Dropped task.schema task.table.tree db after
  dropped mode db tally after h =
      let emptied = went h in
      let uncounts = went emptied.2 in
      let tested = went uncounts.2 in
      let leaves = went tested.2 in
      let one : emptied.0 ≡ db = same_value (second _ _ (is_acted_on task.schema task.keys task.table) quiet emptied.1) in
      let two : uncounts.0 ≡ emptied.0 =
      same_value (subst (λ (b : Bool). UncountsIn task emptied.0 (cond b (sequence task.schema) None)
      (Ok uncounts.0)) uncounted uncounts.1) in
      let end : after ≡ leaves.0 = ap (λ (p : Tally × Database). p.1) (same_value leaves.2) in
      record {
        schema_is = ap (λ (d : Database). d.schema) end ∙ leaves.1.0;
        others = subst (λ (d : Database). KeepsRows (without_table task.schema task.table.tree).tables db d.trees)
            (sym end) (subst (λ (t : Trees). KeepsRows (without_table task.schema task.table.tree).tables t
            leaves.0.trees) (two ∙ one) leaves.1.1);
      }

module _ (schema : Schema) (text : List ℕ) (at : ℕ) (table : Table)
    (is : command_of (understood schema text) ≡ DropTable at) (plain : IsPlain (understood schema text))
    (found : slice_get schema.tables at ≡ Some table)
    (quiet : is_acted_on schema Enforced table ≡ false) (uncounted : table.is_counted ≡ false) where
  pub drops : (old new : State) (count : ℕ) → old.now.schema ≡ schema → Executes text [] old new (Ok count)
      → Dropped schema table.tree old.now.trees new.now × IsDatabase new.now
  drops old new count has h =
      let w = runs_as text [] old new schema has (DropTable at) is plain count h in
      let does = rw found at (subst (λ s. Does old.step_limit (mode_of old) [] (record {
        schema = s;
        trees = old.now.trees;
      }) (statement_of text (understood schema text)) None (DropTable at) (Ok (w.tally, new.now))) has w.changed) in (
        dropped (record {
          limit = old.step_limit;
          keys = Enforced;
          schema = schema;
          table = table;
          params = [];
        }) quiet uncounted (mode_of old) old.now.trees w.tally new.now does,
        w.sound,
      )

  -- it was the last table: those before it have their rows
  pub drops_last : schema.tables ≡ (without_table schema table.tree).tables ++ table ∷ []
      → (old new : State) (count : ℕ) (all : List (List Row)) (rows : List Row)
      → length all ≡ length (without_table schema table.tree).tables
      → HasTables schema (all ++ rows ∷ []) old.now → Executes text [] old new (Ok count) → HasTables (without_table schema table.tree) all new.now
  drops_last last old new count all rows long has h =
      let prefix = (without_table schema table.tree).tables in
      let it = drops old new count has.schema_is h in
      let filled = subst (λ (l : List Table). AreFilled l (all ++ rows ∷ []) old.now.trees) last has.filled in
      record {
        schema_is = it.0.schema_is;
        sound = it.1;
        filled = filled_kept prefix all old.now.trees new.now.trees it.0.others (prefix_filled prefix (table ∷ []) all (rows ∷ []) old.now.trees long filled);
      }
