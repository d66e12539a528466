-- Tables and indexes, as CREATE TABLE and CREATE INDEX define them.
use Rattle.std.specs.Prelude.{Bool, true, false, [], ◌∷◌, Option, option_map, unwrap_or, List, slice_get, ℕ}
use Rattle.sqlite.specs.Collation.TheVariants.{Binary}
use Rattle.sqlite_value.specs.Keys.{plain}
use Rattle.sqlite_value.specs.declared.keys.Order.{Order}
use Rattle.sqlite_value.specs.declared.value.Value.TheVariants as value
use Rattle.sqlite_schema.specs.declared.schema.Column.{Column}
use Rattle.sqlite_schema.specs.declared.schema.Index.{Index}
use Rattle.sqlite_schema.specs.declared.schema.Reference.{Reference}
use Rattle.sqlite_schema.specs.declared.schema.Action.{Action}
use Rattle.sqlite_schema.specs.declared.schema.Action.TheVariants.{NoAction}
use Rattle.sqlite.specs.Table.{Table}
use Rattle.sqlite.specs.Schema.{Schema}
use Rattle.sqlite.specs.Kind.{Kind}
use Rattle.sqlite_catalog.specs.Change.{indexed}

-- a column of a STRICT table, compared byte by byte
abbrev pub column_of : Kind → Bool → List ℕ → Column
column_of kind not_null name = record {
  name = name;
  kind = kind;
  is_strict = true;
  not_null = not_null;
  default = value.Null;
  collation = Binary;
}

-- FOREIGN KEY (columns) REFERENCES parent
abbrev pub reference_to : List ℕ → List ℕ → Action → Reference
reference_to columns parent action = record {
  columns = columns;
  parent = parent;
  parent_columns = [];
  on_delete = action;
  on_update = NoAction;
  is_deferred = false;
}

abbrev pub plain_all : List (List ℕ) → List Order
plain_all [] = []
plain_all (u ∷ us) = plain ∷ plain_all us

-- a table; key is the place of an INTEGER PRIMARY KEY, which is the rowid
abbrev pub table_of : List ℕ → List Column → Option ℕ → List ℕ → List (List ℕ) → List Reference → Table
table_of name columns key primary uniques references = record {
  name = name;
  tree = 0;
  columns = columns;
  key = key;
  primary = primary;
  uniques = uniques;
  orders = plain_all uniques;
  checks = [];
  references = references;
  computed = [];
  stamps = record { places = []; terms = []; formats = [] };
  is_counted = false;
}

abbrev pub no_schema : Schema
no_schema = record { tables = []; indexes = []; views = [] }

-- an index by these columns, in which keys may come twice
abbrev pub index_of : List ℕ → List ℕ → Index
index_of name columns = record { name = name; tree = 0; table = 0; columns = columns; order = plain; is_unique = false }

-- with an index on the table at this place
abbrev pub indexed_at : Schema → ℕ × Index → Schema
indexed_at schema i = unwrap_or (option_map (λ (t : Table). indexed schema t i.1) (slice_get schema.tables i.0)) schema
