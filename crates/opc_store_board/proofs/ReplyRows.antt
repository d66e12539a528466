-- What the statements on open replies do.
use Rattle.std.proofs.Common.{◌≡◌, ℕ, ◌==◌, pos, List, [], ◌∷◌, map, filter, not, length, codes, Bool, true, false, Ok, refl, sym, ap, ap₂, subst, ◌∙◌}
use Rattle.std.specs.List.{flat_map, filter_map}
use Rattle.std.specs.BTreeSet.{replace_key}
use Rattle.sqlite.specs.declared.types.Value.TheVariants.{Null, Int, Text}
use Rattle.sqlite_rules.specs.Action.{works, work_by, pairs, deed_for}
use Rattle.sqlite_schema.specs.Rules.{parent_key}
use Rattle.sqlite_schema.specs.declared.schema.Reference.{Reference}
use Rattle.sqlite_schema.specs.declared.schema.Keys.TheVariants.{Enforced}
use Rattle.sqlite_value.specs.Keys.{joined}
use Rattle.sqlite_schema.specs.Names.{same_name}
use Rattle.sqlite.specs.Term.{Term, lit, col, op2}
use Rattle.sqlite_sql.specs.declared.ops.BinaryOp.TheVariants.{Compare}
use Rattle.sqlite_sql.specs.declared.ops.CompareOp.TheVariants.{Eq}
use Rattle.sqlite_value.specs.declared.keys.Collation.TheVariants.{Binary}
use Rattle.sqlite.specs.Order.{Row}
use Rattle.sqlite.specs.Command.TheVariants.{Insert, Delete}
use Rattle.sqlite.specs.Source.TheVariants.{Values}
use Rattle.sqlite_tied.specs.Compute.{everything}
use Rattle.sqlite.specs.Listing.{understood}
use Rattle.sqlite.specs.State.{State as SqlState, Executes}
use Rattle.sqlite.specs.Table.{Table}
use Rattle.sqlite.specs.Tree.{Trees}
use Rattle.sqlite.specs.Cast.{cast_row}
use Rattle.sqlite.proofs.Callers.{IsPlain, command_of}
use Rattle.sqlite_trees.specs.Tree.{put_row}
use Rattle.sqlite_keyed.proofs.ListLemmas.{filter-map, filter_same}
use Rattle.opc_store_sql.specs.Order.{Rises}
use Rattle.opc_store_sql.specs.Rows.{IsKept}
use Rattle.opc_store_sql.proofs.Steps.{cast_null, cast_int}
use Rattle.opc_store_sql.proofs.Queries.{selecting, alone, passes}
use Rattle.opc_store_sql.proofs.Sets.{others, replaced_after}
use Rattle.opc_store_sql.proofs.Values.{equal_numbers, same_numbers, and_true}
use Rattle.opc_store_sql.proofs.Written.{adds_at, takes_numbers}
use Rattle.opc_store_sql.proofs.Numbered.{put_at, rising_kept}
use Rattle.opc_board.specs.declared.rows.ReplyRow.{ReplyRow}
use Rattle.opc_state.specs.Members.{reply_cmp, without_reply, with_reply}
use Rattle.opc_state.specs.State.{State}
use Rattle.opc_state.specs.Changes.{with_replies}
use Rattle.opc_store_schema.proofs.Keys.{reply_total}
use Rattle.opc_store_schema.specs.Tables.{the_schema}
use Rattle.opc_store_schema.specs.Placed.{replies_at}
use Rattle.opc_store_schema.specs.Represented.{Tabulates, contents_of, reply_row, reply_values}
use Rattle.opc_store_schema.proofs.OtherTables.{with_replies as spares_replies}

abbrev pub insert_reply : List ℕ
insert_reply = codes "INSERT INTO replies VALUES (?1, ?2)"

abbrev pub delete_reply : List ℕ
delete_reply = codes "DELETE FROM replies WHERE id = ?1"

abbrev terms : List Term
terms = col 0 0 ∷ lit Null ∷ col 0 1 ∷ []

abbrev tests : List Term
tests = op2 (Compare Eq Binary) (col 1 0) (col 0 0) ∷ []

insert_is : command_of (understood the_schema insert_reply) ≡ Insert 5 (Values terms 3)
unfolding understood everything
insert_is = refl

insert_plain : IsPlain (understood the_schema insert_reply)
unfolding understood everything
insert_plain = (refl, refl)

delete_is : command_of (understood the_schema delete_reply) ≡ Delete 5 (alone (selecting replies_at.tree tests (col 1 0 ∷ []) []))
unfolding understood everything
delete_is = refl

delete_plain : IsPlain (understood the_schema delete_reply)
unfolding understood everything
delete_plain = (refl, refl)

cast : (r : ReplyRow) → cast_row replies_at (reply_row r) ≡ reply_row r
cast r = ap₂ (λ v (row : Row). v ∷ row) (cast_int _) (ap₂ (λ v (row : Row). v ∷ row) cast_null refl)

idle : (olds news : List Row) → works the_schema Enforced 0 replies_at.tree olds news ≡ []
unfolding same_name joined
idle olds news = go (length news == 0)
  where
    go : (b : Bool)
        → flat_map (λ (child : Table). filter_map
        (λ (ref : Reference). work_by 0 replies_at.tree (pairs olds news) child ref (deed_for Enforced b ref)
        (parent_key the_schema.tables ref)) child.references) the_schema.tables ≡ []
    go true = refl
    go false = refl

meets : (id : ℕ) (db : Trees) (r : ReplyRow) → passes replies_at.tree tests (col 1 0 ∷ []) [] db (Int (pos id) ∷ []) (reply_row r) ≡ (r.id == id)
meets id db r = and_true _ ∙ equal_numbers r.id id

left : (id : ℕ) (db : Trees) (rs : List ReplyRow)
    → filter (λ row. not (passes replies_at.tree tests (col 1 0 ∷ []) [] db (Int (pos id) ∷ []) row))
    (map reply_row rs) ≡ map reply_row (without_reply id rs)
left id db rs = filter-map _ reply_row rs ∙ ap (map reply_row) (filter_same _ _ (λ r. ap not (meets id db r)) rs)

pub removes_reply : (old new : SqlState) (count : ℕ) (s : State) → Tabulates old.now s → Rises reply_cmp s.board.replies
    → (id : ℕ) → Executes delete_reply (Int (pos id) ∷ []) old new (Ok count)
    → Tabulates new.now (with_replies (without_reply id s.board.replies) s)
removes_reply old new count s was up id h =
    let it = takes_numbers the_schema delete_reply 5 replies_at (Int (pos id) ∷ []) delete_plain refl old new was.schema
    count tests delete_is (λ rows. idle _ []) h in
    let kept : IsKept (old.now.trees replies_at.tree) =
    subst IsKept (sym was.holds.replies) (rising_kept reply_values (λ (r : ReplyRow). r.id) s.board.replies up) in
    spares_replies (contents_of s) old.now new.now was it.spares _
    (it.rows kept
    ∙ (ap (filter
    (λ row. not (passes replies_at.tree tests (col 1 0 ∷ []) [] old.now.trees (Int (pos id) ∷ []) row)))
    was.holds.replies ∙ left id old.now.trees s.board.replies))

without_is : (r : ReplyRow) (rs : List ReplyRow) → without_reply r.id rs ≡ others reply_cmp reply_total r rs
without_is r rs = filter_same _ _ (λ q. ap not (sym (same_numbers q.id r.id))) rs

pub inserts_reply : (old new : SqlState) (count : ℕ) (s : State) (r : ReplyRow) → Rises reply_cmp s.board.replies
    → Tabulates old.now (with_replies (without_reply r.id s.board.replies) s)
    → Executes insert_reply (Int (pos r.id) ∷ Text r.text ∷ []) old new (Ok count) → Tabulates new.now (with_replies (with_reply r s.board.replies) s)
inserts_reply old new count s r up was h =
    let it = adds_at the_schema insert_reply 5 replies_at (Int (pos r.id) ∷ Text r.text ∷ []) insert_plain refl old new
    was.schema count terms 3 insert_is (record {
      uncounted = refl;
      stampless = refl;
    }) (pos r.id) (reply_values r) refl (cast r) h in
    let rest = without_reply r.id s.board.replies in
    let put : put_row (reply_row r) (map reply_row rest) ≡ map reply_row (replace_key reply_cmp rest r) = put_at reply_values (λ (q : ReplyRow). q.id) r rest in
    let same : replace_key reply_cmp rest r ≡ with_reply r s.board.replies =
    ap (λ (l : List ReplyRow). replace_key reply_cmp l r) (without_is r s.board.replies)
    ∙ replaced_after reply_cmp reply_total r s.board.replies up in
    spares_replies (contents_of (with_replies rest s)) old.now new.now was it.spares _
    (it.rows ∙ (ap (put_row (reply_row r)) was.holds.replies ∙ (put ∙ ap (map reply_row) same)))
