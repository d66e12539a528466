-- What the queries on open replies read.
use Rattle.std.proofs.Common.{◌≡◌, ◌==◌, ℕ, pos, List, [], ◌∷◌, map, filter, codes, refl, ◌∙◌}
use Rattle.sqlite.specs.Order.{Row}
use Rattle.sqlite.specs.declared.types.Value.TheVariants.{Int}
use Rattle.sqlite.specs.Term.{col, op2}
use Rattle.sqlite.specs.Listing.{understood}
use Rattle.sqlite.specs.State.{State as SqlState, Shown}
use Rattle.sqlite_tied.specs.Compute.{everything}
use Rattle.sqlite_sql.specs.declared.ops.BinaryOp.TheVariants.{Compare}
use Rattle.sqlite_sql.specs.declared.ops.CompareOp.TheVariants.{Eq}
use Rattle.sqlite_value.specs.declared.keys.Collation.TheVariants.{Binary}
use Rattle.opc_store_sql.proofs.Asked.{Asked, IsAsked, by_columns, returned_numbers, returned_all_numbers}
use Rattle.opc_store_sql.proofs.Numbered.{number_cmp}
use Rattle.opc_store_sql.proofs.Values.{equal_numbers, and_true}
use Rattle.opc_board.specs.declared.rows.ReplyRow.{ReplyRow}
use Rattle.opc_state.specs.Members.{reply_cmp}
use Rattle.opc_state.specs.State.{State}
use Rattle.opc_store_schema.specs.Placed.{replies_at}
use Rattle.opc_store_schema.specs.Tables.{the_schema}
use Rattle.opc_store_schema.specs.Represented.{Represents, reply_row, reply_shown}

-- ---- all of them

abbrev pub replies : Asked
replies = record {
  schema = the_schema;
  text = codes "SELECT id, text FROM replies ORDER BY id";
  tree = replies_at.tree;
  tests = [];
  project = col 1 0 ∷ col 1 2 ∷ [];
  order = by_columns 0 1;
}

pub replies_asked : IsAsked replies
unfolding understood everything
replies_asked = record { selects = refl; unlisted = refl; plain = (refl, refl); shows = λ schema base. refl }

pub replies_returned : (old new : SqlState) (s : State) → Represents old.now s → (rows : List Row)
    → Shown replies.text [] old new rows → rows ≡ map reply_shown s.board.replies
replies_returned old new s was =
    returned_all_numbers replies [] reply_row reply_cmp (λ x y h. rw (number_cmp x.id y.id, h)) (λ _. refl) replies_asked
    old new was.rows.schema s.board.replies was.ordered.replies was.rows.holds.replies

-- ---- that of a number

abbrev pub reply : Asked
reply = record replies { text = codes "SELECT id, text FROM replies WHERE id = ?1 ORDER BY id"; tests = op2 (Compare Eq Binary) (col 1 0) (col 0 0) ∷ [] }

pub reply_asked : IsAsked reply
unfolding understood everything
reply_asked = record { selects = refl; unlisted = refl; plain = (refl, refl); shows = λ schema base. refl }

pub reply_returned : (old new : SqlState) (s : State) → Represents old.now s → (id : ℕ) (rows : List Row)
    → Shown reply.text (Int (pos id) ∷ []) old new rows
    → rows ≡ map reply_shown (filter (λ (r : ReplyRow). r.id == id) s.board.replies)
reply_returned old new s was id =
    returned_numbers reply (Int (pos id) ∷ []) reply_row reply_cmp (λ x y h. rw (number_cmp x.id y.id, h)) (λ r. r.id == id)
    (λ r. and_true _ ∙ equal_numbers r.id id) reply_asked old new was.rows.schema s.board.replies
    was.ordered.replies was.rows.holds.replies
