-- Trees that list older tables are those of a connection that has them, and have our names.
use Rattle.std.proofs.Common.{◌≡◌, subst, sym, refl, true}
use Rattle.sqlite.specs.Effect.{Database, IsDatabase}
use Rattle.sqlite.specs.Schema.{Schema}
use Rattle.sqlite_catalog.proofs.ReadLemmas.{lists_once}
use Rattle.sqlite_trees.specs.Objects.{catalog_tree}
use Rattle.sqlite_schema.specs.Names.{same_name}
use Rattle.opc_state.specs.State.{State}
use Rattle.opc_store_schema.specs.Ours.{has_our_name}
use Rattle.opc_store_old_tables.specs.Tables.{Older, First, Second, old_schema}
use Rattle.opc_store_old_tables.specs.Old.{RepresentsOld, AreOldTablesOf}

pub found_old : (version : Older) (db : Database) (s : State) → IsDatabase db → AreOldTablesOf version db.trees s → RepresentsOld version db s
found_old version db s sound alone = record {
  text_of = alone.text_of;
  state = alone.state;
  tables = record {
    schema_is = lists_once (db.trees catalog_tree) db.schema (old_schema version) sound.lists alone.lists;
    sound = sound;
    filled = alone.filled;
  };
}

ours : (version : Older) → has_our_name (old_schema version) ≡ true
unfolding same_name
ours First = refl
ours Second = refl

pub old_named : (version : Older) (schema : Schema) → schema ≡ old_schema version → has_our_name schema ≡ true
old_named version schema is = subst (λ (s : Schema). has_our_name s ≡ true) (sym is) (ours version)
