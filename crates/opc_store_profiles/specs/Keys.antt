-- By which columns a search looks up the row of a profile.
use Rattle.std.specs.Prelude.{◌≡◌, Bool, true, false, ◌&&◌, ℕ, List}
use Rattle.std.specs.List.{AllByRecursion}
use Rattle.std.specs.Str.{bytes_eq}
use Rattle.sqlite.specs.Effect.{Database}
use Rattle.sqlite.specs.Order.{Row, column}
use Rattle.sqlite.specs.declared.types.Value.{Value}
use Rattle.sqlite.specs.declared.types.Value.TheVariants.{Blob, Text}
use Rattle.opc_names.specs.Order.{sort_key, head}
use Rattle.opc_names.specs.Patterns.{tokens}
use Rattle.opc_names.specs.Spellings.{class_text}
use Rattle.opc_names.specs.declared.class.Class.{Class}
use Rattle.opc_store_schema.specs.Contents.{Contents}
use Rattle.opc_store_schema.specs.Made.{IsMade}

abbrev pub is_blob : List ℕ → Value → Bool
is_blob bytes (Blob b) = bytes_eq b bytes
is_blob bytes other = false

abbrev pub is_text : List ℕ → Value → Bool
is_text text (Text t) = bytes_eq t text
is_text text other = false

-- the row has the key and the head of a pattern
abbrev pub has_keys_of : List ℕ → Row → Bool
has_keys_of pattern row = is_blob (sort_key pattern) (column row 5) && is_text (head (tokens pattern)) (column row 6)

-- and of the pattern that it has
abbrev pub HasOwnKeys : Row → Type 0
HasOwnKeys row = (pattern : List ℕ) → column row 1 ≡ Text pattern → has_keys_of pattern row ≡ true

-- the row's class is one of the two
abbrev pub IsOfAClass : Row → Type 0
IsOfAClass row = (text : List ℕ) → column row 0 ≡ Text text → (class : Class) × (text ≡ class_text class)

-- it is of a class, with the key and the head of its pattern
abbrev pub IsKeyed : Row → Type 0
IsKeyed row = IsOfAClass row × HasOwnKeys row

-- In our tables, whatever their rows are, each profile is of a class, with the key and the head of its pattern.
abbrev pub AreKeyed : Database → Type 0
AreKeyed db = (c : Contents) → IsMade c db → AllByRecursion IsKeyed c.profiles
