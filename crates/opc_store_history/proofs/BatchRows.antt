-- What the statements on stored batches do.
use Rattle.std.proofs.Common.{◌≡◌, ℕ, ◌==◌, pos, List, [], ◌∷◌, map, filter, not, length, codes, Bool, true, false, Ok, refl, sym, ap, ap₂, subst, ◌∙◌}
use Rattle.std.specs.List.{flat_map, filter_map}
use Rattle.std.specs.BTreeSet.{replace_key}
use Rattle.sqlite.specs.declared.types.Value.TheVariants.{Null, Int, Text}
use Rattle.sqlite_rules.specs.Action.{works, work_by, pairs, deed_for}
use Rattle.sqlite_schema.specs.Rules.{parent_key}
use Rattle.sqlite_schema.specs.declared.schema.Reference.{Reference}
use Rattle.sqlite_schema.specs.declared.schema.Keys.TheVariants.{Enforced}
use Rattle.sqlite_value.specs.Keys.{joined}
use Rattle.sqlite_schema.specs.Names.{same_name}
use Rattle.sqlite.specs.Term.{Term, lit, col, op2}
use Rattle.sqlite_sql.specs.declared.ops.BinaryOp.TheVariants.{Compare}
use Rattle.sqlite_sql.specs.declared.ops.CompareOp.TheVariants.{Eq}
use Rattle.sqlite_value.specs.declared.keys.Collation.TheVariants.{Binary}
use Rattle.sqlite.specs.Order.{Row}
use Rattle.sqlite.specs.Command.TheVariants.{Insert, Delete}
use Rattle.sqlite.specs.Source.TheVariants.{Values}
use Rattle.sqlite_tied.specs.Compute.{everything}
use Rattle.sqlite.specs.Listing.{understood}
use Rattle.sqlite.specs.State.{State as SqlState, Executes}
use Rattle.sqlite.specs.Table.{Table}
use Rattle.sqlite.specs.Tree.{Trees}
use Rattle.sqlite.specs.Cast.{cast_row}
use Rattle.sqlite.proofs.Callers.{IsPlain, command_of}
use Rattle.sqlite_trees.specs.Tree.{put_row}
use Rattle.sqlite_keyed.proofs.ListLemmas.{filter-map, filter_same}
use Rattle.opc_store_sql.specs.Order.{Rises}
use Rattle.opc_store_sql.specs.Rows.{IsKept}
use Rattle.opc_store_sql.proofs.Steps.{cast_null, cast_int}
use Rattle.opc_store_sql.proofs.Queries.{selecting, alone, passes}
use Rattle.opc_store_sql.proofs.Sets.{others, replaced_after}
use Rattle.opc_store_sql.proofs.Values.{equal_numbers, same_numbers, and_true}
use Rattle.opc_store_sql.proofs.Written.{adds_at, takes_numbers}
use Rattle.opc_store_sql.proofs.Numbered.{put_at, rising_kept}
use Rattle.opc_state.specs.declared.change.Batch.{Batch}
use Rattle.opc_state.specs.Members.{batch_cmp, with_batch}
use Rattle.opc_import.specs.Lines.{policy_text}
use Rattle.opc_state.specs.State.{State}
use Rattle.opc_state.specs.Changes.{with_batches}
use Rattle.opc_store_schema.proofs.Keys.{batch_total}
use Rattle.opc_store_schema.specs.Tables.{the_schema}
use Rattle.opc_store_schema.specs.Placed.{batches_at}
use Rattle.opc_store_schema.specs.Represented.{Tabulates, contents_of, batch_row, batch_values}
use Rattle.opc_store_schema.proofs.OtherTables.{with_batches as spares_batches}

-- the others
abbrev pub without_batch : ℕ → List Batch → List Batch
without_batch number bs = filter (λ (b : Batch). not (b.number == number)) bs

abbrev pub insert_batch : List ℕ
insert_batch = codes "INSERT INTO batches VALUES (?1, ?2)"

abbrev pub delete_batch : List ℕ
delete_batch = codes "DELETE FROM batches WHERE number = ?1"

abbrev terms : List Term
terms = col 0 0 ∷ lit Null ∷ col 0 1 ∷ []

abbrev tests : List Term
tests = op2 (Compare Eq Binary) (col 1 0) (col 0 0) ∷ []

insert_is : command_of (understood the_schema insert_batch) ≡ Insert 11 (Values terms 3)
unfolding understood everything
insert_is = refl

insert_plain : IsPlain (understood the_schema insert_batch)
unfolding understood everything
insert_plain = (refl, refl)

delete_is : command_of (understood the_schema delete_batch) ≡ Delete 11 (alone (selecting batches_at.tree tests (col 1 0 ∷ []) []))
unfolding understood everything
delete_is = refl

delete_plain : IsPlain (understood the_schema delete_batch)
unfolding understood everything
delete_plain = (refl, refl)

cast : (r : Batch) → cast_row batches_at (batch_row r) ≡ batch_row r
cast r = ap₂ (λ v (row : Row). v ∷ row) (cast_int _) (ap₂ (λ v (row : Row). v ∷ row) cast_null refl)

idle : (olds news : List Row) → works the_schema Enforced 0 batches_at.tree olds news ≡ []
unfolding same_name joined
idle olds news = go (length news == 0)
  where
    go : (b : Bool)
        → flat_map (λ (child : Table). filter_map
        (λ (ref : Reference). work_by 0 batches_at.tree (pairs olds news) child ref (deed_for Enforced b ref)
        (parent_key the_schema.tables ref)) child.references) the_schema.tables ≡ []
    go true = refl
    go false = refl

meets : (id : ℕ) (db : Trees) (r : Batch) → passes batches_at.tree tests (col 1 0 ∷ []) [] db (Int (pos id) ∷ []) (batch_row r) ≡ (r.number == id)
meets id db r = and_true _ ∙ equal_numbers r.number id

left : (id : ℕ) (db : Trees) (rs : List Batch)
    → filter (λ row. not (passes batches_at.tree tests (col 1 0 ∷ []) [] db (Int (pos id) ∷ []) row))
    (map batch_row rs) ≡ map batch_row (without_batch id rs)
left id db rs = filter-map _ batch_row rs ∙ ap (map batch_row) (filter_same _ _ (λ r. ap not (meets id db r)) rs)

pub removes_batch : (old new : SqlState) (count : ℕ) (s : State) → Tabulates old.now s → Rises batch_cmp s.batches
    → (id : ℕ) → Executes delete_batch (Int (pos id) ∷ []) old new (Ok count)
    → Tabulates new.now (with_batches (without_batch id s.batches) s)
removes_batch old new count s was up id h =
    let it = takes_numbers the_schema delete_batch 11 batches_at (Int (pos id) ∷ []) delete_plain refl old new
    was.schema count tests delete_is (λ rows. idle _ []) h in
    let kept : IsKept (old.now.trees batches_at.tree) =
    subst IsKept (sym was.holds.batches) (rising_kept batch_values (λ (r : Batch). r.number) s.batches up) in
    spares_batches (contents_of s) old.now new.now was it.spares _
    (it.rows kept
    ∙ (ap (filter
    (λ row. not (passes batches_at.tree tests (col 1 0 ∷ []) [] old.now.trees (Int (pos id) ∷ []) row)))
    was.holds.batches ∙ left id old.now.trees s.batches))

without_is : (r : Batch) (rs : List Batch) → without_batch r.number rs ≡ others batch_cmp batch_total r rs
without_is r rs = filter_same _ _ (λ q. ap not (sym (same_numbers q.number r.number))) rs

pub inserts_batch : (old new : SqlState) (count : ℕ) (s : State) (r : Batch) → Rises batch_cmp s.batches
    → Tabulates old.now (with_batches (without_batch r.number s.batches) s)
    → Executes insert_batch (Int (pos r.number) ∷ Text (policy_text r.rows) ∷ []) old new (Ok count)
    → Tabulates new.now (with_batches (with_batch r s.batches) s)
inserts_batch old new count s r up was h =
    let it = adds_at the_schema insert_batch 11 batches_at (Int (pos r.number) ∷ Text (policy_text r.rows) ∷ [])
    insert_plain refl old new was.schema count terms 3 insert_is (record {
      uncounted = refl;
      stampless = refl;
    }) (pos r.number) (batch_values r) refl (cast r) h in
    let rest = without_batch r.number s.batches in
    let put : put_row (batch_row r) (map batch_row rest) ≡ map batch_row (replace_key batch_cmp rest r) =
    put_at batch_values (λ (q : Batch). q.number) r rest in
    let same : replace_key batch_cmp rest r ≡ with_batch r s.batches =
    ap (λ (l : List Batch). replace_key batch_cmp l r) (without_is r s.batches)
    ∙ replaced_after batch_cmp batch_total r s.batches up in
    spares_batches (contents_of (with_batches rest s)) old.now new.now was it.spares _
    (it.rows ∙ (ap (put_row (batch_row r)) was.holds.batches ∙ (put ∙ ap (map batch_row) same)))

pub batch_given : (sql : List ℕ) (b : Batch) (text : List ℕ) → text ≡ policy_text b.rows
    → (old new : SqlState) (count : ℕ) → Executes sql (Int (pos b.number) ∷ Text text ∷ []) old new (Ok count)
    → Executes sql (Int (pos b.number) ∷ Text (policy_text b.rows) ∷ []) old new (Ok count)
batch_given sql b text same old new count = subst (λ (t : List ℕ). Executes sql (Int (pos b.number) ∷ Text t ∷ []) old new (Ok count)) same
