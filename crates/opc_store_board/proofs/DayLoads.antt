-- What the query on the day reads.
use Rattle.std.proofs.Common.{◌≡◌, List, [], ◌∷◌, map, codes, Bool, refl, Ordering}
use Rattle.sqlite.specs.Order.{Row, value_cmp}
use Rattle.sqlite.specs.Listing.{understood}
use Rattle.sqlite.specs.State.{State as SqlState, Shown}
use Rattle.sqlite_tied.specs.Compute.{everything}
use Rattle.opc_store_sql.proofs.Asked.{Asked, IsAsked, by_columns, columns, returned_all}
use Rattle.opc_state.specs.State.{State}
use Rattle.opc_store_schema.specs.Placed.{board_at}
use Rattle.opc_store_schema.specs.Tables.{the_schema}
use Rattle.opc_store_schema.specs.Represented.{Represents, flag, halted_row}

abbrev pub day : Asked
day = record {
  schema = the_schema;
  text = codes "SELECT halted FROM board ORDER BY halted";
  tree = board_at.tree;
  tests = [];
  project = columns 1 1;
  order = by_columns 1 1;
}

pub day_asked : IsAsked day
unfolding understood everything
day_asked = record { selects = refl; unlisted = refl; plain = (refl, refl); shows = λ schema base. refl }

abbrev halted_cmp : Bool → Bool → Ordering
halted_cmp x y = value_cmp (flag x) (flag y)

pub day_returned : (old new : SqlState) (s : State) → Represents old.now s → (rows : List Row)
    → Shown day.text [] old new rows → rows ≡ map halted_row (s.board.halted ∷ [])
day_returned old new s was = returned_all day [] refl halted_row halted_cmp (λ _. refl) (λ x y h. rw h) (λ _. refl) day_asked
    old new was.rows.schema (s.board.halted ∷ []) (tt, tt) was.rows.holds.board
