-- The tables, as the statements that make them define them, version 3.
use Rattle.std.specs.Prelude.{ℕ, true, false, List, [], ◌∷◌, ◌++◌, fold, Some, None, codes}
use Rattle.sqlite_schema.specs.declared.schema.Action.TheVariants.{NoAction, Cascade}
use Rattle.sqlite_schema.specs.declared.schema.Index.{Index}
use Rattle.sqlite.specs.Table.{Table}
use Rattle.sqlite.specs.Schema.{Schema}
use Rattle.sqlite.specs.Kind.TheVariants.{Integer, Text, Blob}
use Rattle.sqlite_catalog.specs.Change.{created}
use Rattle.opc_store_sql.specs.Shapes.{column_of, reference_to, table_of, index_of, indexed_at, no_schema}

abbrev pub meta_table : Table
meta_table = table_of (codes "meta") (column_of Integer true (codes "version") ∷ []) None ([]) ([]) ([])

abbrev pub classes_table : Table
classes_table = table_of (codes "classes")
    (column_of Text true (codes "class") ∷ column_of Integer true (codes "active") ∷ []) None (1 ∷ []) ((1 ∷ []) ∷ [])
    ([])

abbrev pub consoles_table : Table
consoles_table = table_of (codes "consoles")
    (column_of Text true (codes "name") ∷ column_of Integer true (codes "auth") ∷ column_of Text true (codes "mode")
    ∷ column_of Integer true (codes "online") ∷ column_of Text false (codes "usr")
    ∷ column_of Integer true (codes "monitor") ∷ []) None (1 ∷ []) ((1 ∷ []) ∷ []) ([])

abbrev pub units_table : Table
units_table = table_of (codes "units") (column_of Text true (codes "name") ∷ column_of Text true (codes "kind")
    ∷ column_of Text false (codes "member") ∷ column_of Integer true (codes "cancelable")
    ∷ column_of Integer true (codes "stopping") ∷ column_of Text false (codes "last") ∷ []) None (1 ∷ [])
    ((1 ∷ []) ∷ []) ([])

abbrev pub devices_table : Table
devices_table = table_of (codes "devices")
    (column_of Text true (codes "number") ∷ column_of Integer true (codes "online")
    ∷ column_of Text false (codes "volume") ∷ column_of Text false (codes "unit") ∷ []) None (1 ∷ []) ((1 ∷ []) ∷ [])
    ([])

abbrev pub replies_table : Table
replies_table = table_of (codes "replies")
    (column_of Integer false (codes "id") ∷ column_of Text true (codes "text") ∷ []) (Some 0) (0 ∷ []) [] []

abbrev pub answered_table : Table
answered_table = table_of (codes "answered")
    (column_of Integer false (codes "number") ∷ column_of Integer true (codes "id") ∷ column_of Text true (codes "text")
    ∷ []) (Some 0) (0 ∷ []) [] []

abbrev pub log_table : Table
log_table = table_of (codes "log") (column_of Integer false (codes "number") ∷ column_of Text true (codes "text") ∷ [])
    (Some 0) (0 ∷ []) [] []

abbrev pub messages_table : Table
messages_table = table_of (codes "messages")
    (column_of Integer false (codes "number") ∷ column_of Text true (codes "usr") ∷ column_of Text true (codes "text")
    ∷ []) (Some 0) (0 ∷ []) [] []

abbrev pub board_table : Table
board_table = table_of (codes "board") (column_of Integer true (codes "halted") ∷ []) None ([]) ([]) ([])

abbrev pub account_table : Table
account_table = table_of (codes "account")
    (column_of Integer false (codes "number") ∷ column_of Integer true (codes "moment")
    ∷ column_of Text true (codes "console") ∷ column_of Text true (codes "usr") ∷ column_of Text true (codes "code")
    ∷ column_of Text true (codes "rule") ∷ []) (Some 0) (0 ∷ []) [] []

abbrev pub batches_table : Table
batches_table = table_of (codes "batches")
    (column_of Integer false (codes "number") ∷ column_of Text true (codes "rows") ∷ []) (Some 0) (0 ∷ []) [] []

abbrev pub grp_table : Table
grp_table = table_of (codes "grp") (column_of Text true (codes "name") ∷ []) None (1 ∷ []) ((1 ∷ []) ∷ []) ([])

abbrev pub usr_table : Table
usr_table = table_of (codes "usr") (column_of Text true (codes "id") ∷ column_of Integer true (codes "special")
    ∷ column_of Integer true (codes "auditor") ∷ column_of Integer true (codes "revoked")
    ∷ column_of Blob false (codes "digest") ∷ column_of Integer true (codes "restricted") ∷ []) None (1 ∷ [])
    ((1 ∷ []) ∷ []) ([])

abbrev pub connects_table : Table
connects_table = table_of (codes "connects")
    (column_of Text true (codes "usr") ∷ column_of Text true (codes "grp") ∷ []) None (1 ∷ 2 ∷ []) ((1 ∷ 2 ∷ []) ∷ [])
    (reference_to (1 ∷ []) (codes "usr") NoAction ∷ reference_to (2 ∷ []) (codes "grp") NoAction ∷ [])

abbrev pub profiles_table : Table
profiles_table = table_of (codes "profiles")
    (column_of Text true (codes "class") ∷ column_of Text true (codes "pattern") ∷ column_of Text true (codes "owner")
    ∷ column_of Integer true (codes "uacc") ∷ column_of Integer true (codes "warning")
    ∷ column_of Blob true (codes "skey") ∷ column_of Text true (codes "head") ∷ []) None (1 ∷ 2 ∷ [])
    ((1 ∷ 2 ∷ []) ∷ (1 ∷ 6 ∷ []) ∷ (1 ∷ 7 ∷ 6 ∷ []) ∷ (3 ∷ 1 ∷ 2 ∷ []) ∷ [])
    (reference_to (3 ∷ []) (codes "usr") NoAction ∷ [])

abbrev pub entries_table : Table
entries_table = table_of (codes "entries")
    (column_of Text true (codes "class") ∷ column_of Text true (codes "pattern") ∷ column_of Text true (codes "id")
    ∷ column_of Text true (codes "console") ∷ column_of Integer true (codes "level") ∷ []) None (1 ∷ 2 ∷ 3 ∷ 4 ∷ [])
    ((1 ∷ 2 ∷ 3 ∷ 4 ∷ []) ∷ (3 ∷ 1 ∷ 2 ∷ 4 ∷ []) ∷ []) (reference_to (1 ∷ 2 ∷ []) (codes "profiles") Cascade ∷ [])

-- the console's user and its name; its authority, whether it is online, and its name; the device's unit and its number
abbrev pub consoles_by_user : Index
consoles_by_user = index_of (codes "consoles_by_user") (5 ∷ 1 ∷ [])

abbrev pub consoles_by_authority : Index
consoles_by_authority = index_of (codes "consoles_by_authority") (2 ∷ 4 ∷ 1 ∷ [])

abbrev pub devices_by_unit : Index
devices_by_unit = index_of (codes "devices_by_unit") (4 ∷ 1 ∷ [])

-- those that are the same in all versions
abbrev pub lasting_tables : List Table
lasting_tables =
    meta_table ∷ classes_table ∷ consoles_table ∷ units_table ∷ devices_table ∷ replies_table ∷ answered_table
    ∷ log_table ∷ messages_table
    ∷ board_table ∷ account_table ∷ batches_table ∷ grp_table ∷ []

-- those that have changed since, with the one that refers to them
abbrev pub last_tables : List Table
last_tables = usr_table ∷ connects_table ∷ profiles_table ∷ entries_table ∷ []

abbrev pub the_tables : List Table
the_tables = lasting_tables ++ last_tables

-- each on the table at its place
abbrev pub the_indexes : List (ℕ × Index)
the_indexes = (2, consoles_by_user) ∷ (2, consoles_by_authority) ∷ (4, devices_by_unit) ∷ []

-- In the order in which they are made. A table is at the tree after those of the tables before it, each of which has
-- one for itself and one for each key that is not its rowid; the trees of the indexes come after all of them. So a
-- database of an older version gets the same schema if its last tables are dropped and these are made.
abbrev pub lasting_schema : Schema
lasting_schema = fold created no_schema lasting_tables

abbrev pub tables_schema : Schema
tables_schema = fold created lasting_schema last_tables

abbrev pub the_schema : Schema
the_schema = fold indexed_at tables_schema the_indexes
