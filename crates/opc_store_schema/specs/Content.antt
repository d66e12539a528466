-- What the rows of tables mean: the values of their columns, read back, and the profiles with their access lists.
use Rattle.std.specs.Prelude.{
  ℕ,
  pos,
  ◌==◌,
  Bool,
  ◌&&◌,
  if◌then◌else◌,
  List,
  [],
  ◌∷◌,
  map,
  filter,
  drop,
  Option,
  Some,
  None,
  codes,
}
use Rattle.std.specs.Str.{bytes_eq}
use Rattle.sqlite_value.specs.declared.value.Value.{Value}
use Rattle.sqlite_value.specs.declared.value.Value.TheVariants.{Int, Text, Blob}
use Rattle.sqlite_value.specs.Order.{Row, column}
use Rattle.sqlite_trees.specs.Tree.{Trees}
use Rattle.sqlite_keyed.specs.Lists.{sort_by}
use Rattle.opc_names.specs.declared.class.Class.{Class}
use Rattle.opc_names.specs.declared.class.Class.TheVariants.{Console, Opercmds}
use Rattle.opc_names.specs.declared.level.Level.{Level}
use Rattle.opc_names.specs.declared.level.Level.TheVariants as level
use Rattle.opc_names.specs.Authority.{same_class}
use Rattle.opc_policy_members.specs.declared.entry.Entry.{Entry}
use Rattle.opc_policy_members.specs.declared.profile.Profile.{Profile}
use Rattle.opc_policy_members.specs.Access.{entry_cmp}
use Rattle.opc_policy_members.specs.Profiles.{profile_cmp}
pub use Rattle.opc_state.specs.Loads.{bare}
use Rattle.opc_store_schema.specs.Placed.{entries_at, profiles_at}

-- a value of another kind means nothing
abbrev pub text_said : Value → List ℕ
text_said (Text text) = text
text_said _ = []

abbrev pub number_said : Value → ℕ
number_said (Int (pos n)) = n
number_said _ = 0

abbrev pub flag_said : Value → Bool
flag_said v = number_said v == 1

abbrev pub text_or_none : Value → Option (List ℕ)
text_or_none (Text text) = Some text
text_or_none _ = None

-- what is not a text is not a name
abbrev pub name_or_none : List ℕ → Option (List ℕ)
name_or_none [] = None
name_or_none (c ∷ cs) = Some (c ∷ cs)

abbrev pub bytes_or_none : Value → Option (List ℕ)
bytes_or_none (Blob bytes) = Some bytes
bytes_or_none _ = None

abbrev pub class_said : Value → Class
class_said v = if bytes_eq (text_said v) (codes "CONSOLE") then Console else Opercmds

abbrev pub level_of : ℕ → Level
level_of n = if n == 0 then level.None else if n == 1 then level.Read else if n == 2 then level.Update else
    if n == 3 then level.Control else level.Alter

-- the values of each row
abbrev pub values_of : List Row → List Row
values_of rows = map (λ (r : Row). drop 1 r) rows

-- a profile, but without its access list
abbrev pub profile_said : Row → Profile
profile_said v = record {
  class = class_said (column v 0);
  pattern = text_said (column v 1);
  owner = text_said (column v 2);
  uacc = level_of (number_said (column v 3));
  warning = flag_said (column v 4);
  entries = [];
}

abbrev pub entry_said : Row → Entry
entry_said v = record {
  id = text_said (column v 2);
  when = name_or_none (text_said (column v 3));
  level = level_of (number_said (column v 4));
}

-- whether an entry is one of the profile of a class and a pattern
abbrev pub is_entry_of : Class → List ℕ → Row → Bool
is_entry_of class pattern v = same_class (class_said (column v 0)) class && bytes_eq (text_said (column v 1)) pattern

-- the access list of the profile of a class and a pattern, in its order
abbrev pub entries_in : Trees → Class → List ℕ → List Entry
entries_in trees class pattern = sort_by entry_cmp
    (map entry_said (filter (is_entry_of class pattern) (values_of (trees entries_at.tree))))

-- the profiles, in their order, with their access lists
abbrev pub profiles_in : Trees → List Profile
profiles_in trees =
    map (λ (p : Profile). record p { entries = entries_in trees p.class p.pattern })
    (sort_by profile_cmp (map (λ (r : Row). profile_said (drop 1 r)) (trees profiles_at.tree)))
