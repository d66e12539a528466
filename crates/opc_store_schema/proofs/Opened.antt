-- Trees that list the tables are those of a connection that has them.
use Rattle.std.proofs.Common.{◌≡◌, subst, sym, refl, true}
use Rattle.sqlite.specs.Effect.{Database, IsDatabase}
use Rattle.sqlite.specs.Schema.{Schema}
use Rattle.sqlite_catalog.proofs.ReadLemmas.{lists_once}
use Rattle.sqlite_catalog.specs.Listing.{Lists}
use Rattle.sqlite_trees.specs.Objects.{catalog_tree}
use Rattle.opc_state.specs.State.{State}
use Rattle.opc_store_schema.specs.Tables.{the_schema}
use Rattle.opc_store_schema.specs.Represented.{Represents, AreTablesOf}
use Rattle.opc_store_schema.specs.Ours.{has_our_name}
use Rattle.sqlite_schema.specs.Names.{same_name}

pub found_again : (db : Database) (s : State) → IsDatabase db → AreTablesOf db.trees s → Represents db s
found_again db s sound alone = record {
  ordered = alone.ordered;
  rows = record { schema = lists_once (db.trees catalog_tree) db.schema the_schema sound.lists alone.lists; sound = sound; holds = alone.holds };
}

pub alone_from : (db : Database) (s : State) → Represents db s → AreTablesOf db.trees s
alone_from db s was = record {
  ordered = was.ordered;
  lists = subst (λ (x : Schema). Lists (db.trees catalog_tree) x) was.rows.schema was.rows.sound.lists;
  holds = was.rows.holds;
}

ours : has_our_name the_schema ≡ true
unfolding same_name
ours = refl

pub named : (schema : Schema) → schema ≡ the_schema → has_our_name schema ≡ true
named schema is = subst (λ (s : Schema). has_our_name s ≡ true) (sym is) ours
