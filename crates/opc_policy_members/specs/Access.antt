-- Access lists, and the level that a user holds by one.
use Rattle.std.specs.Prelude.{◌≡◌, ℕ, Bool, ◌&&◌, List, [], ◌∷◌, Option, Some, None, if◌then◌else◌, find, codes}
use Rattle.std.specs.BTreeSet.{replace_key}
use Rattle.std.specs.Cmp.Lexicographic.{slice_cmp}
use Rattle.std.specs.List.{AllPairs}
use Rattle.std.specs.Option.{option_map, option_or, option_eq, option_cmp}
use Rattle.std.specs.Ordering.{nat_cmp, ordering_then}
use Rattle.std.specs.declared.cmp.Ordering.{Ordering}
use Rattle.std.specs.declared.cmp.Ordering.TheVariants.{Less}
use Rattle.std.specs.Str.{bytes_eq}
use Rattle.opc_names.specs.declared.level.Level.{Level}
use Rattle.opc_names.specs.Authority.{includes}
use Rattle.opc_policy_members.specs.declared.entry.Entry.{Entry}
use Rattle.opc_policy_members.specs.declared.user.User.{User}

-- entries by their ids, and those for one id by their consoles, the one for every console first
abbrev pub entry_cmp : Entry → Entry → Ordering
entry_cmp e f = ordering_then (slice_cmp nat_cmp e.id f.id) (option_cmp (slice_cmp nat_cmp) e.when f.when)

-- each entry comes before all later ones, so that no two are for one id and one console
abbrev pub AreInOrder : List Entry → Type 0
AreInOrder entries = AllPairs (λ (e f : Entry). entry_cmp e f ≡ Less) entries

-- an access list with an entry at its place, in which it replaces the one for its id and console
abbrev pub with_entry : Entry → List Entry → List Entry
with_entry entry entries = replace_key entry_cmp entries entry

-- whether an entry is for an id, and for this console alone or, if none is given, for every console
abbrev pub is_for : Option (List ℕ) → List ℕ → Entry → Bool
is_for when id entry = bytes_eq entry.id id && option_eq bytes_eq entry.when when

-- the level of that entry
abbrev pub entry_level : List Entry → Option (List ℕ) → List ℕ → Option Level
entry_level entries when id = option_map (λ (e : Entry). e.level) (find (is_for when id) entries)

-- the higher of two levels
abbrev pub higher_level : Level → Level → Level
higher_level level other = if includes level other then level else other

-- the higher of two levels, if they are there
abbrev pub higher : Option Level → Option Level → Option Level
higher None level = level
higher (Some level) None = Some level
higher (Some level) (Some other) = Some (higher_level level other)

-- the highest level among the entries for these groups
abbrev pub highest_level : List Entry → Option (List ℕ) → List (List ℕ) → Option Level
highest_level entries when [] = None
highest_level entries when (group ∷ groups) =
    higher (entry_level entries when group) (highest_level entries when groups)

-- the level of the entry for everyone, which is none for a RESTRICTED user
abbrev pub everyone_level : List Entry → Option (List ℕ) → User → Option Level
everyone_level entries when user = if user.restricted then None else entry_level entries when (codes "*")

-- The level of the first source that has one, among the entries with one condition: the user's own entry, the highest
-- entry for a connect group of the user, the entry for everyone. The first source present decides, even if its level is
-- NONE: no later one raises it.
abbrev pub first_level : List Entry → Option (List ℕ) → User → List (List ℕ) → Option Level
first_level entries when user groups = option_or (entry_level entries when user.id)
    (option_or (highest_level entries when groups) (everyone_level entries when user))
