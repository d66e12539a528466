-- What the tables of an older version hold, by their names.
use Rattle.std.proofs.Common.{◌≡◌, ℕ, List, [], ◌∷◌, map}
use Rattle.std.specs.List.{flat_map}
use Rattle.sqlite.specs.Effect.{Database}
use Rattle.opc_state.specs.declared.change.Batch.{Batch}
use Rattle.opc_state.specs.State.{State}
use Rattle.opc_store_sql.specs.Rows.{HasRows}
use Rattle.opc_store_schema.specs.Represented.{connect_row, version_row}
use Rattle.opc_store_old_tables.specs.Tables.{Older, First, Second, version_number, old_schema, old_at}
use Rattle.opc_store_old_tables.specs.Old.{RepresentsOld, old_user_row, old_profile_row, old_entry_rows, old_batch_row}

pub record HoldsOld (version : Older) (db : Database) (s : State) (text_of : Batch → List ℕ) : Type 0 where
  pub schema : db.schema ≡ old_schema version
  pub meta : HasRows (version_row (version_number version) ∷ []) (db.trees (old_at version 0).tree)
  pub batches : db.trees (old_at version 11).tree ≡ map (old_batch_row text_of) s.batches
  pub usr : HasRows (map old_user_row s.policy.users) (db.trees (old_at version 13).tree)
  pub connects : HasRows (map connect_row s.policy.connects) (db.trees (old_at version 14).tree)
  pub profiles : HasRows (map (old_profile_row version) s.policy.profiles) (db.trees (old_at version 15).tree)
  pub entries : HasRows (flat_map old_entry_rows s.policy.profiles) (db.trees (old_at version 16).tree)

pub held : (version : Older) (db : Database) (s : State) (was : RepresentsOld version db s) → HoldsOld version db s was.text_of
held First db s was =
    let h = was.tables.filled.1.1.1.1.1.1.1.1.1.1.1 in
    record {
      schema = was.tables.schema_is;
      meta = was.tables.filled.0;
      batches = h.0;
      usr = h.1.1.0;
      connects = h.1.1.1.0;
      profiles = h.1.1.1.1.0;
      entries = h.1.1.1.1.1.0;
    }
held Second db s was =
    let h = was.tables.filled.1.1.1.1.1.1.1.1.1.1.1 in
    record {
      schema = was.tables.schema_is;
      meta = was.tables.filled.0;
      batches = h.0;
      usr = h.1.1.0;
      connects = h.1.1.1.0;
      profiles = h.1.1.1.1.0;
      entries = h.1.1.1.1.1.0;
    }
