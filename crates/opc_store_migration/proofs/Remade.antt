-- The last tables are made again, without rows.
use Rattle.std.proofs.Common.{◌++◌}
use Rattle.sqlite.specs.Effect.{Database}
use Rattle.opc_store_sql.specs.Rows.{HasTables}
use Rattle.opc_store_schema.specs.Contents.{Contents}
use Rattle.opc_store_schema.specs.Made.{IsMade, no_last_rows}
use Rattle.opc_store_schema.specs.Tables.{the_schema}
use Rattle.opc_store_schema.proofs.OtherTables.{named}
use Rattle.opc_store_migration.specs.Between.{lasting_rows, without_last}

pub remade : (c : Contents) (db : Database) → HasTables the_schema (lasting_rows c ++ no_last_rows) db → IsMade (without_last c) db
remade c db has = record { schema = has.schema_is; sound = has.sound; holds = named db.trees (without_last c) has.filled }
