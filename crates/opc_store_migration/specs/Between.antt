-- What the tables hold between the steps of a migration.
use Rattle.std.specs.Prelude.{ℕ, List, [], ◌∷◌, map, take}
use Rattle.sqlite_value.specs.Order.{Row}
use Rattle.opc_state.specs.declared.change.Batch.{Batch}
use Rattle.opc_state.specs.Changes.{all_edited, with_users, with_connects, with_profiles, with_batches}
use Rattle.opc_state.specs.State.{State}
use Rattle.opc_store_schema.specs.Contents.{Contents, as_list}
use Rattle.opc_store_schema.specs.Represented.{contents_of, version_row}
use Rattle.opc_store_old_tables.specs.Tables.{Older, version_number}
use Rattle.opc_store_old_tables.specs.Old.{old_batch_row}
use Rattle.opc_store_old_tables.specs.declared.edits.MigrationEdits.{MigrationEdits}

-- the rows of the lasting tables
abbrev pub lasting_rows : Contents → List (List Row)
lasting_rows c = take 13 (as_list c)

-- the last tables are empty
abbrev pub without_last : Contents → Contents
without_last c = record c { usr = []; connects = []; profiles = []; entries = [] }

-- the state without what is upserted anew
abbrev pub emptied : State → State
emptied s = with_batches [] (with_profiles [] (with_connects [] (with_users [] s)))

-- its tables, with the version and the batches as they were
abbrev pub between : Older → (Batch → List ℕ) → State → Contents
between version text_of s = record (contents_of (emptied s)) {
  meta = version_row (version_number version) ∷ [];
  batches = map (old_batch_row text_of) s.batches;
}

-- the state with what is upserted, part by part
abbrev pub put_into : MigrationEdits → State → State
put_into puts s = all_edited puts.batches.items
    (all_edited puts.profiles.items (all_edited puts.connects.items (all_edited puts.users.items s)))
