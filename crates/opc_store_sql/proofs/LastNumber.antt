-- The number of the row that an INSERT added last.
use Rattle.std.proofs.Common.{◌≡◌, ℕ, ◌+◌, ◌/◌, pos, List, [], ◌∷◌, length, slice_get, false, cond, Some, None, unwrap_or, Ok, ap, subst, ◌∙◌, append-nil}
use Rattle.sqlite.specs.declared.types.Value.TheVariants.{Null}
use Rattle.sqlite.specs.Order.{Row}
use Rattle.sqlite.specs.Term.{Term}
use Rattle.sqlite.specs.Table.{Table}
use Rattle.sqlite.specs.Schema.{Schema}
use Rattle.sqlite.specs.Command.TheVariants.{Insert}
use Rattle.sqlite.specs.Source.TheVariants.{Values}
use Rattle.sqlite.specs.Cast.{cast_row}
use Rattle.sqlite.specs.Edit.{edit_of, next_rowid}
use Rattle.sqlite.specs.Rowids.TheVariants.{Chosen, Above}
use Rattle.sqlite.specs.Effect.{Database, IsSource, value_rows}
use Rattle.sqlite.specs.Does.{Tally, Does}
use Rattle.sqlite.specs.Rows.{Written, stamped, Task, Inserts, rowids_for, count_of, last_id}
use Rattle.sqlite.specs.Tree.{Trees}
use Rattle.sqlite.specs.Listing.{understood}
use Rattle.sqlite.specs.State.{State, mode_of, Writes, Executes}
use Rattle.sqlite.proofs.Callers.{IsPlain, command_of, statement_of, runs_as}
use Rattle.sqlite_rules.specs.Edit.{numbered}
use Rattle.sqlite_schema.specs.declared.command.Source.{Source}
use Rattle.sqlite_schema.specs.declared.schema.Keys.TheVariants.{Enforced}
use Rattle.opc_store_sql.specs.Rows.{numbered_rows}
use Rattle.opc_store_sql.proofs.Numbered.{next_is}
use Rattle.opc_store_sql.proofs.Steps.{went, same_value, IsSimple}

-- what an INSERT notes as its last number is that of the last of its new rows
last_of : (task : Task) (from : Source) (db : Trees) (w : Written) → task.table.is_counted ≡ false → Inserts task from db (Ok w)
    → (rows : List Row) × IsSource (record {
      schema = task.schema;
      trees = db;
    }) (stamped task.table task.params) from rows × (w.last ≡ last_id (edit_of db task.table [] Chosen 0 rows).news)
last_of task from db w none h =
    let given = went h in
    let counter = went given.2 in
    let written = went counter.2 in
    let counted = went written.2 in
    let chosen : rowids_for task.table (count_of counter.0) ≡ Chosen = ap (λ b. cond b (Above (count_of counter.0)) Chosen) none in
    (given.0, given.1, ap (λ (it : Written). it.last) (same_value counted.2) ∙ ap (λ r. last_id (edit_of db task.table [] r 0 given.0).news) chosen)

module _ (schema : Schema) (text : List ℕ) (at : ℕ) (table : Table) (params : Row)
    (plain : IsPlain (understood schema text)) (found : slice_get schema.tables at ≡ Some table)
    (old new : State) (has : old.now.schema ≡ schema) (count : ℕ) where
  abbrev task : Task
  task = record { limit = old.step_limit; keys = Enforced; schema = schema; table = table; params = params }

  noted : (from : Source) → Writes old new None (Insert at from) (statement_of text (understood schema text)) params count
      → (w : Written) × Inserts task from old.now.trees (Ok w) × (new.last_rowid ≡ unwrap_or w.last old.last_rowid)
  noted from w =
      let done = went (rw found at (subst (λ s. Does old.step_limit (mode_of old) params (record {
        schema = s;
        trees = old.now.trees;
      }) (statement_of text (understood schema text)) None (Insert at from) (Ok (w.tally, new.now))) has w.changed)) in
      let both = same_value (went (went done.2).2).2 in
      (done.0, done.1, w.last_rowid ∙ ap (λ (p : Tally × Database). unwrap_or p.0.last old.last_rowid) both)

  module _ (terms : List Term) (width : ℕ) (is : command_of (understood schema text) ≡ Insert at (Values terms width)) (simple : IsSimple table)
      (values : Row) (gives : value_rows params width (length terms / width) terms ≡ (Null ∷ values) ∷ [])
      (stored : cast_row table (Null ∷ values) ≡ Null ∷ values) where
    chosen_last : Executes text params old new (Ok count) → new.last_rowid ≡ next_rowid (old.now.trees table.tree)
    chosen_last h =
        let it = noted (Values terms width) (runs_as text params old new schema has (Insert at (Values terms width)) is plain count h) in
        let last = last_of task (Values terms width) old.now.trees it.0 simple.uncounted it.1 in
        let same : stamped table params ≡ params = rw simple.stampless (append-nil params) in
        let source = subst (λ (p : Row). IsSource (record { schema = schema; trees = old.now.trees }) p (Values terms width) last.0) same last.1 in
        it.2
        ∙ (ap (λ o. unwrap_or o old.last_rowid) last.2
        ∙ (ap (λ (rows : List Row). unwrap_or (last_id (edit_of old.now.trees table [] Chosen 0 rows).news) old.last_rowid) (source.1 ∙ gives)
        ∙ ap (λ (r : Row). unwrap_or (last_id (numbered Chosen (old.now.trees table.tree) (r ∷ []))) old.last_rowid) stored))

    -- in a table whose rows are numbered by their places, it is one more than there were
    pub number_is : {X : Type 0} (of : X → Row) (xs : List X) → old.now.trees table.tree ≡ numbered_rows of 1 xs
        → Executes text params old new (Ok count) → new.last_rowid ≡ pos (1 + length xs)
    number_is of xs are h = chosen_last h ∙ (ap next_rowid are ∙ next_is of xs)
