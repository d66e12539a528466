-- What the query on answered replies reads.
use Rattle.std.proofs.Common.{◌≡◌, List, [], map, codes, refl}
use Rattle.sqlite.specs.Order.{Row}
use Rattle.sqlite.specs.Listing.{understood}
use Rattle.sqlite.specs.State.{State as SqlState, Shown}
use Rattle.sqlite_tied.specs.Compute.{everything}
use Rattle.opc_store_sql.proofs.Asked.{Asked, IsAsked, by_columns, columns, returned_places}
use Rattle.opc_store_sql.proofs.Numbered.{number_cmp}
use Rattle.opc_state.specs.State.{State}
use Rattle.opc_store_schema.specs.Placed.{answered_at}
use Rattle.opc_store_schema.specs.Tables.{the_schema}
use Rattle.opc_store_schema.specs.Represented.{Represents, answered_values, reply_shown}

abbrev pub answered : Asked
answered = record {
  schema = the_schema;
  text = codes "SELECT id, text FROM answered ORDER BY number";
  tree = answered_at.tree;
  tests = [];
  project = columns 2 2;
  order = by_columns 0 1;
}

pub answered_asked : IsAsked answered
unfolding understood everything
answered_asked = record { selects = refl; unlisted = refl; plain = (refl, refl); shows = λ schema base. refl }

pub answered_returned : (old new : SqlState) (s : State) → Represents old.now s → (rows : List Row)
    → Shown answered.text [] old new rows → rows ≡ map reply_shown s.board.answered
answered_returned old new s was =
    returned_places answered [] answered_values reply_shown (λ _. refl) (λ p q h. rw (number_cmp p.0 q.0, h)) (λ _. refl)
    answered_asked old new was.rows.schema s.board.answered was.rows.holds.answered
