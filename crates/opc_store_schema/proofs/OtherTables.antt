-- If one table changes, the others have the rows that they had.
use Rattle.std.proofs.Common.{◌≡◌, ◌≢◌, ℕ, List, slice_get, set, Some, true, refl, subst}
use Rattle.sqlite.specs.Order.{Row}
use Rattle.sqlite.specs.Table.{Table}
use Rattle.sqlite.specs.Tree.{Trees}
use Rattle.sqlite.specs.Effect.{Database}
use Rattle.sqlite_keyed.proofs.ListLemmas.{all_of}
use Rattle.opc_store_sql.specs.Rows.{IsFilled, AreFilled}
use Rattle.opc_store_sql.proofs.OtherTables.{is_alone, one_changes}
use Rattle.opc_store_sql.proofs.Written.{Spares}
use Rattle.opc_store_schema.specs.Contents.{Contents, Holds, as_list}
use Rattle.opc_store_schema.specs.Made.{IsMade}
use Rattle.opc_store_schema.specs.Placed.{
  meta_at,
  classes_at,
  consoles_at,
  units_at,
  devices_at,
  replies_at,
  answered_at,
  log_at,
  messages_at,
  board_at,
  account_at,
  batches_at,
  grp_at,
  usr_at,
  connects_at,
  profiles_at,
  entries_at,
}
use Rattle.opc_store_schema.specs.Tables.{the_schema}

listed : (trees : Trees) (c : Contents) → Holds trees c → AreFilled the_schema.tables (as_list c) trees
listed trees c h = (
  h.meta,
  (
    h.classes,
    (
      h.consoles,
      (
        h.units,
        (
          h.devices,
          (
            h.replies,
            (
              h.answered,
              (
                h.log,
                (
                  h.messages,
                  (
                    h.board,
                    (
                      h.account,
                      (h.batches, (h.grp, (h.usr, (h.connects, (h.profiles, (h.entries, tt)))))),
                    ),
                  ),
                ),
              ),
            ),
          ),
        ),
      ),
    ),
  ),
)

pub named : (trees : Trees) (c : Contents) → AreFilled the_schema.tables (as_list c) trees → Holds trees c
named trees c h = record {
  meta = h.0;
  classes = h.1.0;
  consoles = h.1.1.0;
  units = h.1.1.1.0;
  devices = h.1.1.1.1.0;
  replies = h.1.1.1.1.1.0;
  answered = h.1.1.1.1.1.1.0;
  log = h.1.1.1.1.1.1.1.0;
  messages = h.1.1.1.1.1.1.1.1.0;
  board = h.1.1.1.1.1.1.1.1.1.0;
  account = h.1.1.1.1.1.1.1.1.1.1.0;
  batches = h.1.1.1.1.1.1.1.1.1.1.1.0;
  grp = h.1.1.1.1.1.1.1.1.1.1.1.1.0;
  usr = h.1.1.1.1.1.1.1.1.1.1.1.1.1.0;
  connects = h.1.1.1.1.1.1.1.1.1.1.1.1.1.1.0;
  profiles = h.1.1.1.1.1.1.1.1.1.1.1.1.1.1.1.0;
  entries = h.1.1.1.1.1.1.1.1.1.1.1.1.1.1.1.1.0;
}

module _ (c : Contents) (old new : Database) (was : IsMade c old) where
  -- the table has the rows that it is given, and the others those that they had
  abbrev Changes : Table → (List Row → Contents) → Type 0
  Changes table with = Spares the_schema table old.trees new → (rows : List Row) → IsFilled table rows new.trees → IsMade (with rows) new

  changed : (at : ℕ) (table : Table) (with : List Row → Contents) → slice_get the_schema.tables at ≡ Some table
      → is_alone table.tree at the_schema.tables ≡ true
      → ((rows : List Row) → set (as_list c) at rows ≡ as_list (with rows)) → Changes table with
  changed at table with found alone is spares rows has =
      let all = one_changes table.tree old.trees new.trees at table the_schema.tables (as_list c) rows found alone
      spares.tables (listed old.trees c was.holds) has in
      record {
        schema = spares.schema_is;
        sound = spares.sound;
        holds = named new.trees (with rows) (subst (λ (l : List (List Row)). AreFilled the_schema.tables l new.trees) (is rows) all);
      }

  pub with_meta : Changes meta_at (λ rows. record c { meta = rows })
  with_meta = changed 0 meta_at (λ rows. record c { meta = rows }) refl refl (λ rows. refl)

  pub with_classes : Changes classes_at (λ rows. record c { classes = rows })
  with_classes = changed 1 classes_at (λ rows. record c { classes = rows }) refl refl (λ rows. refl)

  pub with_consoles : Changes consoles_at (λ rows. record c { consoles = rows })
  with_consoles = changed 2 consoles_at (λ rows. record c { consoles = rows }) refl refl (λ rows. refl)

  pub with_units : Changes units_at (λ rows. record c { units = rows })
  with_units = changed 3 units_at (λ rows. record c { units = rows }) refl refl (λ rows. refl)

  pub with_devices : Changes devices_at (λ rows. record c { devices = rows })
  with_devices = changed 4 devices_at (λ rows. record c { devices = rows }) refl refl (λ rows. refl)

  pub with_replies : Changes replies_at (λ rows. record c { replies = rows })
  with_replies = changed 5 replies_at (λ rows. record c { replies = rows }) refl refl (λ rows. refl)

  pub with_answered : Changes answered_at (λ rows. record c { answered = rows })
  with_answered = changed 6 answered_at (λ rows. record c { answered = rows }) refl refl (λ rows. refl)

  pub with_log : Changes log_at (λ rows. record c { log = rows })
  with_log = changed 7 log_at (λ rows. record c { log = rows }) refl refl (λ rows. refl)

  pub with_messages : Changes messages_at (λ rows. record c { messages = rows })
  with_messages = changed 8 messages_at (λ rows. record c { messages = rows }) refl refl (λ rows. refl)

  pub with_board : Changes board_at (λ rows. record c { board = rows })
  with_board = changed 9 board_at (λ rows. record c { board = rows }) refl refl (λ rows. refl)

  pub with_account : Changes account_at (λ rows. record c { account = rows })
  with_account = changed 10 account_at (λ rows. record c { account = rows }) refl refl (λ rows. refl)

  pub with_batches : Changes batches_at (λ rows. record c { batches = rows })
  with_batches = changed 11 batches_at (λ rows. record c { batches = rows }) refl refl (λ rows. refl)

  pub with_grp : Changes grp_at (λ rows. record c { grp = rows })
  with_grp = changed 12 grp_at (λ rows. record c { grp = rows }) refl refl (λ rows. refl)

  pub with_usr : Changes usr_at (λ rows. record c { usr = rows })
  with_usr = changed 13 usr_at (λ rows. record c { usr = rows }) refl refl (λ rows. refl)

  pub with_connects : Changes connects_at (λ rows. record c { connects = rows })
  with_connects = changed 14 connects_at (λ rows. record c { connects = rows }) refl refl (λ rows. refl)

  pub with_profiles : Changes profiles_at (λ rows. record c { profiles = rows })
  with_profiles = changed 15 profiles_at (λ rows. record c { profiles = rows }) refl refl (λ rows. refl)

  pub with_entries : Changes entries_at (λ rows. record c { entries = rows })
  with_entries = changed 16 entries_at (λ rows. record c { entries = rows }) refl refl (λ rows. refl)

-- if nothing changes, neither do others
pub spares_all : (c : Contents) (db : Database) (table : Table) → IsMade c db → Spares the_schema table db.trees db
spares_all c db table was = record {
  schema_is = was.schema;
  sound = was.sound;
  tables = all_of (λ (t : Table). t.tree ≢ table.tree → db.trees t.tree ≡ db.trees t.tree) (λ t other. refl) the_schema.tables;
}
