-- Which names are those of our tables and indexes, and which version such tables are of.
use Rattle.std.specs.Prelude.{◌≡◌, ℕ, pos, Bool, ◌||◌, ◌&&◌, is_some, List, [], ◌∷◌, ◌++◌, map, codes}
use Rattle.std.specs.List.{list_any}
use Rattle.sqlite_schema.specs.Names.{same_name}
use Rattle.sqlite_schema.specs.declared.schema.Table.{Table}
use Rattle.sqlite_schema.specs.declared.schema.Index.{Index}
use Rattle.sqlite_schema.specs.declared.schema.View.{View}
use Rattle.sqlite.specs.Schema.{Schema}
use Rattle.sqlite.specs.Order.{Row, column}
use Rattle.sqlite.specs.State.{State, Shown}
use Rattle.sqlite.specs.declared.types.Value.{Value}
use Rattle.sqlite.specs.declared.types.Value.TheVariants.{Int}
use Rattle.opc_store_schema.specs.Tables.{the_tables, the_indexes}

abbrev pub our_names : List (List ℕ)
our_names = map (λ (t : Table). t.name) the_tables ++ map (λ (i : ℕ × Index). i.1.name) the_indexes

-- in any case of its letters
abbrev pub is_ours : List ℕ → Bool
is_ours name = list_any (same_name name) our_names

-- A table or an index has such a name. Those that the database cannot read are listed among the views, with the name of
-- the table.
abbrev pub has_our_name : Schema → Bool
has_our_name schema = list_any (λ (t : Table). is_ours t.name) schema.tables
    || list_any (λ (i : Index). is_ours i.name) schema.indexes
    || list_any (λ (v : View). is_some v.foreign && is_ours v.name) schema.views

abbrev pub version_query : List ℕ
version_query = codes "SELECT version FROM meta ORDER BY version"

abbrev pub number_of : Value → ℕ
number_of (Int (pos n)) = n
number_of _ = 0

-- The version that the rows of meta name: the whole number above 0 that the only row has, or otherwise 0.
abbrev pub version_of : List Row → ℕ
version_of (row ∷ []) = number_of (column row 0)
version_of _ = 0

-- queried for its version, the database names this one
abbrev pub NamesVersion : ℕ → State → State → Type 0
NamesVersion version old new = (rows : List Row) × Shown version_query [] old new rows × (version_of rows ≡ version)
