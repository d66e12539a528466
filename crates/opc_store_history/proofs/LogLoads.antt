-- What the query on the log reads.
use Rattle.std.proofs.Common.{◌≡◌, List, [], map, codes, refl}
use Rattle.sqlite.specs.Order.{Row}
use Rattle.sqlite.specs.Listing.{understood}
use Rattle.sqlite.specs.State.{State as SqlState, Shown}
use Rattle.sqlite_tied.specs.Compute.{everything}
use Rattle.opc_store_sql.proofs.Asked.{Asked, IsAsked, by_columns, columns, returned_places}
use Rattle.opc_store_sql.proofs.Numbered.{number_cmp}
use Rattle.opc_state.specs.State.{State}
use Rattle.opc_store_schema.specs.Placed.{log_at}
use Rattle.opc_store_schema.specs.Tables.{the_schema}
use Rattle.opc_store_schema.specs.Represented.{Represents, log_values, log_shown}

abbrev pub log : Asked
log = record {
  schema = the_schema;
  text = codes "SELECT text FROM log ORDER BY number";
  tree = log_at.tree;
  tests = [];
  project = columns 2 1;
  order = by_columns 0 1;
}

pub log_asked : IsAsked log
unfolding understood everything
log_asked = record { selects = refl; unlisted = refl; plain = (refl, refl); shows = λ schema base. refl }

pub log_returned : (old new : SqlState) (s : State) → Represents old.now s
    → (rows : List Row) → Shown log.text [] old new rows → rows ≡ map log_shown s.board.log
log_returned old new s was =
    returned_places log [] log_values log_shown (λ _. refl) (λ p q h. rw (number_cmp p.0 q.0, h)) (λ _. refl) log_asked old
    new was.rows.schema s.board.log was.rows.holds.log
