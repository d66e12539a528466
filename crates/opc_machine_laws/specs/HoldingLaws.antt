-- What users hold by access lists, for those who write them.
use Rattle.std.specs.Prelude.{
  ◌≡◌,
  ◌⊎◌,
  ◌||◌,
  ℕ,
  Bool,
  true,
  false,
  List,
  [],
  ◌∷◌,
  Option,
  Some,
  None,
  codes,
  filter,
  map,
  Contains,
}
use Rattle.std.specs.List.{list_any}
use Rattle.std.specs.Option.{is_none, option_eq}
use Rattle.std.specs.Str.{bytes_eq}
use Rattle.opc_names.specs.declared.level.Level.{Level}
use Rattle.opc_names.specs.declared.level.Level.TheVariants as level
use Rattle.opc_names.specs.Authority.{includes}
use Rattle.opc_policy_members.specs.declared.entry.Entry.{Entry}
use Rattle.opc_policy_members.specs.declared.profile.Profile.{Profile}
use Rattle.opc_policy_members.specs.declared.user.User.{User}
use Rattle.opc_policy_members.specs.Access.{entry_level, first_level, higher_level, highest_level}
use Rattle.opc_policy_members.specs.Held.{held}

-- An entry is for the user, for a group of the user, or for everyone, which does not include RESTRICTED users.
abbrev pub IsForUser : User → List (List ℕ) → Entry → Type 0
IsForUser u groups e = (e.id ≡ u.id) ⊎ (Contains groups e.id ⊎ ((e.id ≡ codes "*") × (u.restricted ≡ false)))

-- An entry gives a user a level: it is in the access list, for every console or for this one, and for the user.
pub record Gives (p : Profile) (u : User) (console : Option (List ℕ)) (groups : List (List ℕ)) (needed : Level)
    (e : Entry) : Type 0 where
  pub listed : Contains p.entries e
  pub here : (e.when ≡ None) ⊎ (e.when ≡ console)
  pub for_user : IsForUser u groups e
  pub enough : includes e.level needed ≡ true

-- A user who holds a level above NONE holds it by such an entry, or by the universal access, which RESTRICTED users do
-- not have.
abbrev pub LevelsAreGiven : Type 0
LevelsAreGiven =
    (p : Profile) (u : User) (console : Option (List ℕ)) (groups : List (List ℕ)) (needed : Level)
    → includes (held p u console groups) needed ≡ true
    → (needed ≡ level.None) ⊎ (((e : Entry) × Gives p u console groups needed e)
    ⊎ ((u.restricted ≡ false) × (includes p.uacc needed ≡ true)))

-- At a console a user holds at least what the user holds without one: no entry for a console lowers a level,
abbrev pub ConsolesNeverLower : Type 0
ConsolesNeverLower = (p : Profile) (u : User) (console : List ℕ) (groups : List (List ℕ))
    → includes (held p u (Some console) groups) (held p u None groups) ≡ true

-- and the first source among the entries for a console raises it there to its own level.
abbrev pub ConsoleEntriesRaise : Type 0
ConsoleEntriesRaise =
    (p : Profile) (u : User) (console : List ℕ) (groups : List (List ℕ)) (given : Level)
    → first_level p.entries (Some console) u groups ≡ Some given
    → includes (held p u (Some console) groups) given ≡ true

-- whether an entry is for every console or for this one
abbrev pub is_here : Option (List ℕ) → Entry → Bool
is_here console e = is_none e.when || option_eq bytes_eq e.when console

-- An entry for a console counts there alone: a user holds the same, anywhere else, without it.
abbrev pub EntriesCountAtTheirConsole : Type 0
EntriesCountAtTheirConsole =
    (p : Profile) (u : User) (console : Option (List ℕ)) (groups : List (List ℕ))
    → held (record p { entries = filter (is_here console) p.entries }) u console groups ≡ held p u console groups

-- whether an entry is for the user or for a group of the user
abbrev pub is_named : User → List (List ℕ) → Entry → Bool
is_named u groups e = bytes_eq e.id u.id || list_any (bytes_eq e.id) groups

-- A RESTRICTED user has nothing of what is given to everyone: the user holds the same without universal access, and
-- without the entries for others.
abbrev pub RestrictedUsersAreNamed : Type 0
RestrictedUsersAreNamed =
    (p : Profile) (u : User) (console : Option (List ℕ)) (groups : List (List ℕ)) → u.restricted ≡ true
    → held (record p {
      uacc = level.None;
      entries = filter (is_named u groups) p.entries;
    }) u console groups ≡ held p u console groups

-- The first source that has a level decides, even if it is NONE.
-- Without the entries for a console: the user's own entry, then the highest for a group, then that for everyone, then
-- the universal access. None of the later ones raises it, and none lowers it.
pub record IsByFirstSource (p : Profile) (u : User) (groups : List (List ℕ)) : Type 0 where
  pub own : (l : Level) → entry_level p.entries None u.id ≡ Some l → held p u None groups ≡ l
  pub group : (l : Level) → entry_level p.entries None u.id ≡ None
      → highest_level p.entries None groups ≡ Some l → held p u None groups ≡ l
  pub everyone : (l : Level) → u.restricted ≡ false → entry_level p.entries None u.id ≡ None
      → highest_level p.entries None groups ≡ None → entry_level p.entries None (codes "*") ≡ Some l
      → held p u None groups ≡ l
  pub universal : u.restricted ≡ false → entry_level p.entries None u.id ≡ None
      → highest_level p.entries None groups ≡ None → entry_level p.entries None (codes "*") ≡ None
      → held p u None groups ≡ p.uacc

abbrev pub FirstSourceDecides : Type 0
FirstSourceDecides = (p : Profile) (u : User) (groups : List (List ℕ)) → IsByFirstSource p u groups

-- At a console the user holds the higher of this level and of what the user holds everywhere.
abbrev pub IsRaisedTo : Profile → User → List ℕ → List (List ℕ) → Level → Type 0
IsRaisedTo p u console groups l = held p u (Some console) groups ≡ higher_level (held p u None groups) l

-- Among the entries for the console, too, the first source that has a level decides, even if it is NONE; without any
-- the user holds what the user holds everywhere.
pub record IsByFirstAtConsole (p : Profile) (u : User) (console : List ℕ) (groups : List (List ℕ)) : Type 0 where
  pub own : (l : Level) → entry_level p.entries (Some console) u.id ≡ Some l → IsRaisedTo p u console groups l
  pub group : (l : Level) → entry_level p.entries (Some console) u.id ≡ None
      → highest_level p.entries (Some console) groups ≡ Some l → IsRaisedTo p u console groups l
  pub everyone : (l : Level) → u.restricted ≡ false → entry_level p.entries (Some console) u.id ≡ None
      → highest_level p.entries (Some console) groups ≡ None
      → entry_level p.entries (Some console) (codes "*") ≡ Some l → IsRaisedTo p u console groups l
  pub nobody : entry_level p.entries (Some console) u.id ≡ None
      → highest_level p.entries (Some console) groups ≡ None
      → (u.restricted ≡ true) ⊎ (entry_level p.entries (Some console) (codes "*") ≡ None)
      → held p u (Some console) groups ≡ held p u None groups

abbrev pub FirstSourceAtConsoleDecides : Type 0
FirstSourceAtConsoleDecides = (p : Profile) (u : User) (console : List ℕ) (groups : List (List ℕ))
    → IsByFirstAtConsole p u console groups

-- Each of a user's groups counts: without an entry for the user, the user holds at least what an entry for a group
-- gives.
abbrev pub EachGroupCounts : Type 0
EachGroupCounts =
    (p : Profile) (u : User) (console : Option (List ℕ)) (groups : List (List ℕ)) (group : List ℕ) (given : Level)
    → entry_level p.entries None u.id ≡ None → Contains groups group → entry_level p.entries None group ≡ Some given
    → includes (held p u console groups) given ≡ true

-- the levels, the lowest first, and which of these each includes: itself and those below
abbrev pub levels_up : List Level
levels_up = level.None ∷ level.Read ∷ level.Update ∷ level.Control ∷ level.Alter ∷ []

abbrev pub included : Level → List Bool
included level.None = true ∷ false ∷ false ∷ false ∷ false ∷ []
included level.Read = true ∷ true ∷ false ∷ false ∷ false ∷ []
included level.Update = true ∷ true ∷ true ∷ false ∷ false ∷ []
included level.Control = true ∷ true ∷ true ∷ true ∷ false ∷ []
included level.Alter = true ∷ true ∷ true ∷ true ∷ true ∷ []

abbrev pub LevelsIncludeThoseBelow : Type 0
LevelsIncludeThoseBelow = (l : Level) → map (includes l) levels_up ≡ included l
