-- Rows of the table of access lists, and the lists that they have.
use Rattle.std.specs.Prelude.{◌≡◌, ℕ, Bool, false, List, [], filter}
use Rattle.std.specs.List.{AllByRecursion}
use Rattle.std.specs.Ordering.{is_gt, is_lt}
use Rattle.std.specs.Str.{bytes_eq}
use Rattle.sqlite.specs.Order.{Row, column}
use Rattle.sqlite.specs.declared.types.Value.{Value}
use Rattle.sqlite.specs.declared.types.Value.TheVariants.{Text}
use Rattle.sqlite_trees.specs.Tree.{IsAscending}
use Rattle.opc_policy_members.specs.declared.profile.Profile.{Profile}
use Rattle.opc_store_sql.specs.Order.{text_cmp}
use Rattle.opc_store_schema.specs.Represented.{entry_rows}
use Rattle.opc_store_schema.specs.State.{IsAccessList}

-- a text; what is not one is read as the empty one
abbrev pub text_of : Value → List ℕ
text_of (Text text) = text
text_of other = []

-- the pattern of the profile that an entry is of
abbrev pub pattern_in : Row → List ℕ
pattern_in row = text_of (column row 1)

abbrev pub is_before : List ℕ → Row → Bool
is_before pattern row = is_lt (text_cmp (pattern_in row) pattern)

abbrev pub is_of : List ℕ → Row → Bool
is_of pattern row = bytes_eq (pattern_in row) pattern

-- rows in the order of their patterns
abbrev pub AreByPattern : List Row → Type 0
AreByPattern = IsAscending (λ row other. is_gt (text_cmp (pattern_in row) (pattern_in other)) ≡ false)

-- Of some rows, those of its pattern are the access list of a profile.
abbrev pub HasList : List Row → Profile → Type 0
HasList rows p = (filter (is_of p.pattern) rows ≡ entry_rows p) × IsAccessList p.entries

-- Rows in the order of their patterns, with the access list of each of these profiles.
abbrev pub HaveLists : List Row → List Profile → Type 0
HaveLists rows profiles = AreByPattern rows × AllByRecursion (HasList rows) profiles
