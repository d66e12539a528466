-- What a statement of each kind does to the tables, whatever its text and its table are.
use Rattle.std.proofs.Common.{
  ◌≡◌,
  ◌⊎◌,
  inl,
  inr,
  ℕ,
  ◌==◌,
  ℤ,
  List,
  [],
  ◌∷◌,
  length,
  slice_get,
  Bool,
  true,
  false,
  cond,
  ◌&&◌,
  Option,
  Some,
  None,
  unwrap_or,
  Ok,
  Err,
  Result,
  refl,
  sym,
  ap,
  subst,
  ◌∙◌,
  append-nil,
}
use Rattle.std.specs.List.{filter_map, flat_map}
use Rattle.sqlite.specs.declared.types.Value.{Value}
use Rattle.sqlite.specs.declared.types.Value.TheVariants.{Null, Int}
use Rattle.sqlite.specs.Order.{Row}
use Rattle.sqlite.specs.Ops.{unary}
use Rattle.sqlite.specs.Table.{Table}
use Rattle.sqlite.specs.Schema.{Schema}
use Rattle.sqlite.specs.Kind.TheVariants.{Integer}
use Rattle.sqlite.specs.Command.TheVariants.{Insert, Update, Delete}
use Rattle.sqlite.specs.Edit.{Edit, edit_of, taken_by}
use Rattle.sqlite.specs.Cast.{cast}
use Rattle.sqlite.specs.Rowids.TheVariants.{Chosen, Above, Given}
use Rattle.std.specs.Bool.{MatchBool}
use Rattle.sqlite_rules.specs.Action.{Work, work_by, works, Writes as WritesEdit}
use Rattle.sqlite_rules.specs.Calls.{ids_of}
use Rattle.sqlite_rules.specs.declared.action.Deed.{Deed}
use Rattle.sqlite_schema.specs.Rules.{ParentKey}
use Rattle.sqlite_schema.specs.declared.schema.Keys.{Keys}
use Rattle.sqlite_schema.specs.declared.schema.Keys.TheVariants.{Enforced}
use Rattle.sqlite_schema.specs.declared.schema.Reference.{Reference}
use Rattle.sqlite.specs.Effect.{Database, IsDatabase, IsSource, Answers}
use Rattle.sqlite.specs.Does.{Tally, Does, Concludes}
use Rattle.sqlite.specs.declared.run.Mode.{Mode}
use Rattle.sqlite_schema.specs.declared.command.Returning.{Returning}
use Rattle.sqlite_schema.specs.declared.command.Source.{Source}
use Rattle.sqlite_schema.specs.declared.program.Program.{Program}
use Rattle.sqlite.specs.Rows.{Written, stamped, Task, Inserts, Updates, Deletes, rowids_for, count_of}
use Rattle.sqlite.specs.Tree.{Trees}
use Rattle.sqlite.specs.Listing.{understood}
use Rattle.sqlite.specs.State.{State, mode_of, Writes, Executes}
use Rattle.sqlite.proofs.Callers.{IsPlain, command_of, statement_of, runs_as}

either : (b : Bool) (x : Value) → cond b x x ≡ x
either true x = refl
either false x = refl

pub cast_null : cast Integer Null ≡ Null
unfolding unary
cast_null = either _ Null

pub cast_int : (n : ℤ) → cast Integer (Int n) ≡ Int n
unfolding unary
cast_int n = either _ (Int n)

-- a part that gave a value did not stop on the way
pub went : {B E R : Type 0} {b : B} {Stops : E → Type 0} → ((stop : E) × Stops stop × (Ok b ≡ Err stop)) ⊎ R → R
went (inl stopped) = absurd (let e = stopped.2 in cc)
went (inr on) = on

pub same_value : {B E : Type 0} {a b : B} → ◌≡◌ {A = Result B E} (Ok a) (Ok b) → a ≡ b
same_value e = cc

-- ---- no foreign key acts if no row is removed

no_work : (depth tree : ℕ) (child : Table) (ref : Reference) (deed : Option Deed) (key : Option ParentKey) → work_by depth tree [] child ref deed key ≡ None
no_work depth tree child ref None key = refl
no_work depth tree child ref (Some deed) None = refl
no_work depth tree child ref (Some deed) (Some key) = go (key.0 == tree) (record {
  depth = depth;
  child = child;
  ref = ref;
  places = key.1;
  order = key.2;
  deed = deed;
  moves = [];
})
  where
    go : (b : Bool) (w : Work) → cond (b && false) (Some w) None ≡ None
    go true w = refl
    go false w = refl

none_filtered : {A B : Type 0} (f : A → Option B) → ((x : A) → f x ≡ None) → (xs : List A) → filter_map f xs ≡ []
none_filtered f none [] = refl
none_filtered f none (x ∷ xs) = rw (none x, none_filtered f none xs)

none_flat : {A B : Type 0} (f : A → List B) → ((x : A) → f x ≡ []) → (xs : List A) → flat_map f xs ≡ []
none_flat f none [] = refl
none_flat f none (x ∷ xs) = rw (none x, none_flat f none xs)

pub nothing_goes : (schema : Schema) (keys : Keys) (tree : ℕ) (news : List Row) → works schema keys 0 tree [] news ≡ []
nothing_goes schema keys tree news = none_flat _ (λ child. none_filtered _ (λ ref. no_work 0 tree child ref _ _) child.references) schema.tables

-- ---- the parts of a statement

-- no rowid is counted, and no default reads the time
pub record IsSimple (t : Table) : Type 0 where
  pub uncounted : t.is_counted ≡ false
  pub stampless : t.stamps.terms ≡ []

second : (P Q : Type 0) (b c : Bool) → b ≡ false → MatchBool (cond b c false) P Q → Q
second P Q true c none h = absurd cc
second P Q false c none h = h

module _ (task : Task) where
  pub concluded : (mode : Mode) (returning : Option Returning) (w : Written) (tally : Tally) (after : Database)
      → Concludes task mode returning w (Ok (tally, after))
      → (after ≡ record { schema = task.schema; trees = w.trees }) × (tally.rows ≡ Some (length w.rows))
  concluded mode returning w tally after h =
      let both = same_value (went (went h).2).2 in
      (ap (λ (p : Tally × Database). p.1) both, ap (λ (p : Tally × Database). p.0.rows) both)

  abbrev pub WritesBy : Trees → Edit → Trees → Type 0
  WritesBy db edit next = WritesEdit task.schema task.keys db edit (Ok next)

  pub inserted : (from : Source) (db : Trees) (w : Written) → task.table.is_counted ≡ false → Inserts task from db (Ok w)
      → (rows : List Row) × IsSource (record {
        schema = task.schema;
        trees = db;
      }) (stamped task.table task.params) from rows × WritesBy db (edit_of db task.table [] Chosen 0 rows) w.trees
  inserted from db w none h =
      let given = went h in
      let counter = went given.2 in
      let written = went counter.2 in
      let counted = went written.2 in
      let same : counted.0 ≡ written.0 = same_value (second _ _ task.table.is_counted _ none counted.1) in
      let trees : w.trees ≡ written.0 = ap (λ (it : Written). it.trees) (same_value counted.2) ∙ same in
      let chosen : rowids_for task.table (count_of counter.0) ≡ Chosen = ap (λ b. cond b (Above (count_of counter.0)) Chosen) none in (
        given.0,
        given.1,
        subst (λ (t : Trees). WritesBy db (edit_of db task.table [] Chosen 0 given.0) t) (sym trees)
            (subst (λ r. WritesBy db (edit_of db task.table [] r 0 given.0) written.0) chosen written.1),
      )

  pub updated : (q : Program) (given : Row) (db : Trees) (w : Written) → Updates task q given db (Ok w)
      → (rows : List Row) × Answers (record {
        schema = task.schema;
        trees = db;
      }) q given rows × WritesBy db (edit_of db task.table (ids_of rows) Given 1 rows) w.trees
      × (w.rows ≡ (edit_of db task.table (ids_of rows) Given 1 rows).news)
  updated q given db w h =
      let found = went h in
      let written = went found.2 in
      let is = same_value written.2 in (
        found.0,
        found.1,
        subst (λ (t : Trees). WritesBy db (edit_of db task.table (ids_of found.0) Given 1 found.0) t)
            (sym (ap (λ (it : Written). it.trees) is)) written.1,
        ap (λ (it : Written). it.rows) is,
      )

  pub deleted : (q : Program) (db : Trees) (w : Written) → Deletes task q db (Ok w)
      → (rows : List Row) × Answers (record {
        schema = task.schema;
        trees = db;
      }) q task.params rows × WritesBy db (edit_of db task.table (ids_of rows) Given 0 []) w.trees
      × (w.rows ≡ taken_by db (edit_of db task.table (ids_of rows) Given 0 []))
  deleted q db w h =
      let found = went h in
      let written = went found.2 in
      let is = same_value written.2 in (
        found.0,
        found.1,
        subst (λ (t : Trees). WritesBy db (edit_of db task.table (ids_of found.0) Given 0 []) t)
            (sym (ap (λ (it : Written). it.trees) is)) written.1,
        ap (λ (it : Written). it.rows) is,
      )

-- ---- a whole statement

-- the schema stays, and the rows change by the edit, with its actions
pub record Edits (schema : Schema) (edit : Edit) (old : Trees) (new : Database) : Type 0 where
  pub schema_is : new.schema ≡ schema
  pub sound : IsDatabase new
  pub writes : WritesEdit schema Enforced old edit (Ok new.trees)

module _ (schema : Schema) (text : List ℕ) (at : ℕ) (table : Table) (params : Row)
    (plain : IsPlain (understood schema text)) (found : slice_get schema.tables at ≡ Some table) where
  abbrev pub task_at : Option ℕ → Task
  task_at limit = record { limit = limit; keys = Enforced; schema = schema; table = table; params = params }

  -- what a statement on the rows of the table did
  abbrev Did : (Task → Trees → Written → Type 0) → State → Database → ℕ → Type 0
  Did By old now count = (w : Written) × By (task_at old.step_limit) old.now.trees w × (now ≡ record {
    schema = schema;
    trees = w.trees;
  }) × (count ≡ length w.rows) × IsDatabase now

  module _ (old new : State) (has : old.now.schema ≡ schema) (count : ℕ) where
    did_insert : (from : Source) → Writes old new None (Insert at from) (statement_of text (understood schema text))
        params count → Did (λ task db w. Inserts task from db (Ok w)) old new.now count
    did_insert from w =
        let done = went (rw found at (subst (λ s. Does old.step_limit (mode_of old) params (record {
          schema = s;
          trees = old.now.trees;
        }) (statement_of text (understood schema text)) None (Insert at from) (Ok (w.tally, new.now))) has w.changed)) in
        let end = concluded (task_at old.step_limit) (mode_of old) None done.0 w.tally new.now done.2 in
        (done.0, done.1, end.0, w.counted ∙ ap (λ o. unwrap_or o 0) end.1, w.sound)

    did_update : (q : Program) → Writes old new None (Update at q) (statement_of text (understood schema text)) params
        count → Did (λ task db w. Updates task q params db (Ok w)) old new.now count
    did_update q w =
        let done = went (rw found at (subst (λ s. Does old.step_limit (mode_of old) params (record {
          schema = s;
          trees = old.now.trees;
        }) (statement_of text (understood schema text)) None (Update at q) (Ok (w.tally, new.now))) has w.changed)) in
        let end = concluded (task_at old.step_limit) (mode_of old) None done.0 w.tally new.now done.2 in
        (done.0, done.1, end.0, w.counted ∙ ap (λ o. unwrap_or o 0) end.1, w.sound)

    did_delete : (q : Program) → Writes old new None (Delete at q) (statement_of text (understood schema text)) params
        count → Did (λ task db w. Deletes task q db (Ok w)) old new.now count
    did_delete q w =
        let done = went (rw found at (subst (λ s. Does old.step_limit (mode_of old) params (record {
          schema = s;
          trees = old.now.trees;
        }) (statement_of text (understood schema text)) None (Delete at q) (Ok (w.tally, new.now))) has w.changed)) in
        let end = concluded (task_at old.step_limit) (mode_of old) None done.0 w.tally new.now done.2 in
        (done.0, done.1, end.0, w.counted ∙ ap (λ o. unwrap_or o 0) end.1, w.sound)

    as_edits : (edit : Edit) (trees : Trees) → IsDatabase new.now → new.now ≡ record {
      schema = schema;
      trees = trees;
    } → WritesEdit schema Enforced old.now.trees edit (Ok trees) → Edits schema edit old.now.trees new.now
    as_edits edit trees sound is writes = record {
      sound = sound;
      schema_is = ap (λ (d : Database). d.schema) is;
      writes = subst (λ (t : Trees). WritesEdit schema Enforced old.now.trees edit (Ok t)) (sym (ap (λ (d : Database). d.trees) is)) writes;
    }

    pub inserts : (from : Source) → command_of (understood schema text) ≡ Insert at from → IsSimple table → Executes text params old new (Ok count)
        → (rows : List Row) × IsSource (record {
          schema = schema;
          trees = old.now.trees;
        }) params from rows × Edits schema (edit_of old.now.trees table [] Chosen 0 rows) old.now.trees new.now
    inserts from is simple h =
        let did = did_insert from (runs_as text params old new schema has (Insert at from) is plain count h) in
        let it = inserted (task_at old.step_limit) from old.now.trees did.0 simple.uncounted did.1 in
        let same : stamped table params ≡ params = rw simple.stampless (append-nil params) in
        (it.0, subst (λ (p : Row). IsSource (record { schema = schema; trees = old.now.trees }) p from it.0) same it.1, as_edits _ did.0.trees did.4 did.2 it.2)

    pub updates : (q : Program) → command_of (understood schema text) ≡ Update at q → Executes text params old new (Ok count)
        → (rows : List Row) × Answers (record {
          schema = schema;
          trees = old.now.trees;
        }) q params rows × Edits schema (edit_of old.now.trees table (ids_of rows) Given 1 rows) old.now.trees new.now
        × (count ≡ length (edit_of old.now.trees table (ids_of rows) Given 1 rows).news)
    updates q is h =
        let did = did_update q (runs_as text params old new schema has (Update at q) is plain count h) in
        let it = updated (task_at old.step_limit) q params old.now.trees did.0 did.1 in
        (it.0, it.1, as_edits _ did.0.trees did.4 did.2 it.2, did.3 ∙ ap length it.3)

    pub deletes : (q : Program) → command_of (understood schema text) ≡ Delete at q → Executes text params old new (Ok count)
        → (rows : List Row) × Answers (record {
          schema = schema;
          trees = old.now.trees;
        }) q params rows × Edits schema (edit_of old.now.trees table (ids_of rows) Given 0 []) old.now.trees new.now
        × (count ≡ length (taken_by old.now.trees (edit_of old.now.trees table (ids_of rows) Given 0 [])))
    deletes q is h =
        let did = did_delete q (runs_as text params old new schema has (Delete at q) is plain count h) in
        let it = deleted (task_at old.step_limit) q old.now.trees did.0 did.1 in
        (it.0, it.1, as_edits _ did.0.trees did.4 did.2 it.2, did.3 ∙ ap length it.3)
