-- The tables at their trees, by their places in the schema.
use Rattle.std.specs.Prelude.{get_or}
use Rattle.sqlite.specs.Table.{Table}
use Rattle.opc_store_schema.specs.Tables.{
  the_schema,
  meta_table,
  classes_table,
  consoles_table,
  units_table,
  devices_table,
  replies_table,
  answered_table,
  log_table,
  messages_table,
  board_table,
  account_table,
  batches_table,
  grp_table,
  usr_table,
  connects_table,
  profiles_table,
  entries_table,
}

abbrev pub meta_at : Table
meta_at = get_or the_schema.tables 0 meta_table

abbrev pub classes_at : Table
classes_at = get_or the_schema.tables 1 classes_table

abbrev pub consoles_at : Table
consoles_at = get_or the_schema.tables 2 consoles_table

abbrev pub units_at : Table
units_at = get_or the_schema.tables 3 units_table

abbrev pub devices_at : Table
devices_at = get_or the_schema.tables 4 devices_table

abbrev pub replies_at : Table
replies_at = get_or the_schema.tables 5 replies_table

abbrev pub answered_at : Table
answered_at = get_or the_schema.tables 6 answered_table

abbrev pub log_at : Table
log_at = get_or the_schema.tables 7 log_table

abbrev pub messages_at : Table
messages_at = get_or the_schema.tables 8 messages_table

abbrev pub board_at : Table
board_at = get_or the_schema.tables 9 board_table

abbrev pub account_at : Table
account_at = get_or the_schema.tables 10 account_table

abbrev pub batches_at : Table
batches_at = get_or the_schema.tables 11 batches_table

abbrev pub grp_at : Table
grp_at = get_or the_schema.tables 12 grp_table

abbrev pub usr_at : Table
usr_at = get_or the_schema.tables 13 usr_table

abbrev pub connects_at : Table
connects_at = get_or the_schema.tables 14 connects_table

abbrev pub profiles_at : Table
profiles_at = get_or the_schema.tables 15 profiles_table

abbrev pub entries_at : Table
entries_at = get_or the_schema.tables 16 entries_table
