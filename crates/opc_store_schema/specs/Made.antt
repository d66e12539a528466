-- When a database has the tables, with these rows.
use Rattle.std.specs.Prelude.{◌≡◌, List, [], map}
use Rattle.sqlite.specs.Order.{Row}
use Rattle.sqlite.specs.Table.{Table}
use Rattle.sqlite.specs.Effect.{Database, IsDatabase}
use Rattle.opc_store_schema.specs.Contents.{Contents, Holds}
use Rattle.opc_store_schema.specs.Tables.{the_schema, last_tables}

pub record IsMade (c : Contents) (db : Database) : Type 0 where
  pub schema : db.schema ≡ the_schema
  -- they list the schema, and obey it
  pub sound : IsDatabase db
  pub holds : Holds db.trees c

-- no rows
abbrev pub nothing : Contents
nothing = record {
  meta = [];
  classes = [];
  consoles = [];
  units = [];
  devices = [];
  replies = [];
  answered = [];
  log = [];
  messages = [];
  board = [];
  account = [];
  batches = [];
  grp = [];
  usr = [];
  connects = [];
  profiles = [];
  entries = [];
}

-- no rows of the last tables
abbrev pub no_last_rows : List (List Row)
no_last_rows = map (λ (t : Table). []) last_tables
