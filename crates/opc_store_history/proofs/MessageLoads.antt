-- What the query on messages reads.
use Rattle.std.proofs.Common.{◌≡◌, List, [], map, codes, refl}
use Rattle.sqlite.specs.Order.{Row}
use Rattle.sqlite.specs.Listing.{understood}
use Rattle.sqlite.specs.State.{State as SqlState, Shown}
use Rattle.sqlite_tied.specs.Compute.{everything}
use Rattle.opc_store_sql.proofs.Asked.{Asked, IsAsked, by_columns, columns, returned_places}
use Rattle.opc_store_sql.proofs.Numbered.{number_cmp}
use Rattle.opc_state.specs.State.{State}
use Rattle.opc_store_schema.specs.Placed.{messages_at}
use Rattle.opc_store_schema.specs.Tables.{the_schema}
use Rattle.opc_store_schema.specs.Represented.{Represents, message_values, message_shown}

abbrev pub messages : Asked
messages = record {
  schema = the_schema;
  text = codes "SELECT usr, text FROM messages ORDER BY number";
  tree = messages_at.tree;
  tests = [];
  project = columns 2 2;
  order = by_columns 0 1;
}

pub messages_asked : IsAsked messages
unfolding understood everything
messages_asked = record { selects = refl; unlisted = refl; plain = (refl, refl); shows = λ schema base. refl }

pub messages_returned : (old new : SqlState) (s : State) → Represents old.now s → (rows : List Row)
    → Shown messages.text [] old new rows → rows ≡ map message_shown s.board.messages
messages_returned old new s was =
    returned_places messages [] message_values message_shown (λ _. refl) (λ p q h. rw (number_cmp p.0 q.0, h)) (λ _. refl)
    messages_asked old new was.rows.schema s.board.messages was.rows.holds.messages
