-- The tables of versions 1 and 2 that differ from those of version 3.
use Rattle.std.specs.Prelude.{ℕ, true, false, [], ◌∷◌, fold, get_or, None, codes}
use Rattle.sqlite_schema.specs.declared.schema.Action.TheVariants.{NoAction, Cascade}
use Rattle.sqlite.specs.Table.{Table}
use Rattle.sqlite.specs.Schema.{Schema}
use Rattle.sqlite.specs.Kind.TheVariants.{Integer, Text, Blob}
use Rattle.sqlite_catalog.specs.Change.{created}
use Rattle.opc_store_sql.specs.Shapes.{column_of, reference_to, table_of}
use Rattle.opc_store_schema.specs.Tables.{lasting_schema, connects_table, meta_table}

-- the first version, and the second, whose profiles have sort keys and heads
pub data Older : Type 0 where
  First : Older
  Second : Older

abbrev pub version_number : Older → ℕ
version_number First = 1
version_number Second = 2

-- nobody is RESTRICTED
abbrev pub old_usr_table : Table
old_usr_table = table_of (codes "usr") (column_of Text true (codes "id") ∷ column_of Integer true (codes "special")
    ∷ column_of Integer true (codes "auditor") ∷ column_of Integer true (codes "revoked")
    ∷ column_of Blob false (codes "digest") ∷ []) None (1 ∷ []) ((1 ∷ []) ∷ []) ([])

abbrev pub old_profiles_table : Older → Table
old_profiles_table First = table_of (codes "profiles")
    (column_of Text true (codes "class") ∷ column_of Text true (codes "pattern") ∷ column_of Text true (codes "owner")
    ∷ column_of Integer true (codes "uacc") ∷ column_of Integer true (codes "warning") ∷ []) None (1 ∷ 2 ∷ [])
    ((1 ∷ 2 ∷ []) ∷ []) (reference_to (3 ∷ []) (codes "usr") NoAction ∷ [])
old_profiles_table Second = table_of (codes "profiles")
    (column_of Text true (codes "class") ∷ column_of Text true (codes "pattern") ∷ column_of Text true (codes "owner")
    ∷ column_of Integer true (codes "uacc") ∷ column_of Integer true (codes "warning")
    ∷ column_of Blob true (codes "skey") ∷ column_of Text true (codes "head") ∷ []) None (1 ∷ 2 ∷ [])
    ((1 ∷ 2 ∷ []) ∷ (1 ∷ 6 ∷ []) ∷ (1 ∷ 7 ∷ 6 ∷ []) ∷ []) (reference_to (3 ∷ []) (codes "usr") NoAction ∷ [])

-- each entry counts at every console
abbrev pub old_entries_table : Table
old_entries_table = table_of (codes "entries")
    (column_of Text true (codes "class") ∷ column_of Text true (codes "pattern") ∷ column_of Text true (codes "id")
    ∷ column_of Integer true (codes "level") ∷ []) None (1 ∷ 2 ∷ 3 ∷ []) ((1 ∷ 2 ∷ 3 ∷ []) ∷ [])
    (reference_to (1 ∷ 2 ∷ []) (codes "profiles") Cascade ∷ [])

-- the lasting tables come first, as in version 3, and there are no indexes except those of the keys
abbrev pub old_schema : Older → Schema
old_schema version = fold created lasting_schema
    (old_usr_table ∷ connects_table ∷ old_profiles_table version ∷ old_entries_table ∷ [])

-- the table at a place
abbrev pub old_at : Older → ℕ → Table
old_at version place = get_or (old_schema version).tables place meta_table
