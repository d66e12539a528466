-- When a table has one row for each of some values, and no other.
use Rattle.std.specs.Prelude.{◌≡◌, Option, Some, None, ℕ, ◌+◌, pos, List, [], ◌∷◌, map, drop, IsTrue, IsPermutation}
use Rattle.sqlite_value.specs.declared.value.Value.TheVariants.{Int}
use Rattle.std.specs.Bool.{⊤}
use Rattle.std.specs.List.{AllByRecursion}
use Rattle.sqlite.specs.Effect.{Database, IsDatabase}
use Rattle.sqlite.specs.Schema.{Schema}
use Rattle.sqlite_value.specs.Order.{Row}
use Rattle.sqlite_schema.specs.declared.schema.Table.{Table}
use Rattle.sqlite_trees.specs.Tree.{IsTable, Trees, rowid}
use Rattle.sqlite_trees.specs.View.{is_int}

-- the rows have rowids of their own
pub record IsKept (rows : List Row) : Type 0 where
  pub apart : IsTable rows
  pub keyed : AllByRecursion (λ r. IsTrue (is_int (rowid r))) rows

-- one row for each of these, whatever its rowid is, and no other
pub record HasRows (values rows : List Row) : Type 0 where
  pub each : IsPermutation values (map (drop 1) rows)
  pub kept : IsKept rows

-- a row whose key is its number: the rowid, and then its columns, of which that of the key is NULL
abbrev pub numbered_row : {X : Type 0} → (X → Row) → ℕ → X → Row
numbered_row values number x = Int (pos number) ∷ values x

-- rows that are numbered by their places, from this number on
abbrev pub numbered_rows : {X : Type 0} → (X → Row) → ℕ → List X → List Row
numbered_rows values number [] = []
numbered_rows values number (x ∷ xs) = numbered_row values number x ∷ numbered_rows values (number + 1) xs

abbrev pub FilledBy : Option ℕ → List Row → List Row → Type 0
FilledBy (Some place) values rows = rows ≡ values
FilledBy None values rows = HasRows values rows

-- The table has these rows and no other: in this order, as they are, if its key is a number, and otherwise one row for
-- each.
abbrev pub IsFilled : Table → List Row → Trees → Type 0
IsFilled table values trees = FilledBy table.key values (trees table.tree)

-- each table has the rows of its place in the list
abbrev pub AreFilled : List Table → List (List Row) → Trees → Type 0
AreFilled [] [] trees = ⊤
AreFilled [] (rows ∷ all) trees = ⊥
AreFilled (t ∷ tables) [] trees = ⊥
AreFilled (t ∷ tables) (rows ∷ all) trees = IsFilled t rows trees × AreFilled tables all trees

-- The database has the tables and the indexes of the schema, and the tables have these rows.
pub record HasTables (schema : Schema) (all : List (List Row)) (db : Database) : Type 0 where
  pub schema_is : db.schema ≡ schema
  -- it lists the schema, and obeys it
  pub sound : IsDatabase db
  pub filled : AreFilled schema.tables all db.trees
