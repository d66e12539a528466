-- The source of the level that a user holds in a profile.
use Rattle.std.specs.Prelude.{
  ◌≡◌,
  ℕ,
  false,
  true,
  List,
  [],
  ◌∷◌,
  Option,
  Some,
  None,
  Contains,
  if◌then◌else◌,
  option_map,
  unwrap_or,
  codes,
}
use Rattle.std.specs.Option.{option_or}
use Rattle.opc_names.specs.declared.level.Level.{Level}
use Rattle.opc_names.specs.declared.level.Level.TheVariants as level
use Rattle.opc_names.specs.Authority.{includes}
use Rattle.opc_policy_members.specs.Access.{entry_level}
use Rattle.opc_policy_members.specs.declared.entry.Entry.{Entry}
use Rattle.opc_policy_members.specs.declared.profile.Profile.{Profile}
use Rattle.opc_policy_members.specs.declared.user.User.{User}
use Rattle.opc_policy_sources.specs.declared.sources.HeldLevel.{HeldLevel}
use Rattle.opc_policy_sources.specs.declared.sources.LevelSource.{LevelSource}
use Rattle.opc_policy_sources.specs.declared.sources.LevelSource.TheVariants.{
  Own,
  Group,
  Everyone,
  Universal,
  Restricted,
}

-- the level of an entry, if there is one, with its source
abbrev pub from_entry : LevelSource → Option (List ℕ) → Option Level → Option HeldLevel
from_entry source when level = option_map (λ (l : Level). record { level = l; source = source; when = when }) level

-- of up to two levels, the first, unless the other one is higher
abbrev pub highest_first : HeldLevel → HeldLevel → HeldLevel
highest_first first other = if includes first.level other.level then first else other

abbrev pub first_highest : Option HeldLevel → Option HeldLevel → Option HeldLevel
first_highest None other = other
first_highest (Some first) None = Some first
first_highest (Some first) (Some other) = Some (highest_first first other)

-- the highest of the entries for these groups; of equal ones the first group's
abbrev pub group_source : List Entry → Option (List ℕ) → List (List ℕ) → Option HeldLevel
group_source entries when [] = None
group_source entries when (group ∷ groups) =
    first_highest (from_entry (Group group) when (entry_level entries when group)) (group_source entries when groups)

-- the entry for everyone, of which a RESTRICTED user has nothing
abbrev pub everyone_source : List Entry → Option (List ℕ) → User → Option HeldLevel
everyone_source entries when user =
    if user.restricted then None else from_entry Everyone when (entry_level entries when (codes "*"))

-- the first source that exists: the user's own entry, the highest entry for a connect group, the entry for everyone
abbrev pub first_source : List Entry → Option (List ℕ) → User → List (List ℕ) → Option HeldLevel
first_source entries when user groups = option_or (from_entry Own when (entry_level entries when user.id))
    (option_or (group_source entries when groups) (everyone_source entries when user))

-- and if there is none, the universal access, of which a RESTRICTED user has nothing
abbrev pub universal_source : Profile → User → HeldLevel
universal_source p user = if user.restricted then record { level = level.None; source = Restricted; when = None } else
    record { level = p.uacc; source = Universal; when = None }

abbrev pub plain_source : Profile → User → List (List ℕ) → HeldLevel
plain_source p user groups = unwrap_or (first_source p.entries None user groups) (universal_source p user)

-- an entry for one console alone counts if its level is higher
abbrev pub raised : HeldLevel → Option HeldLevel → HeldLevel
raised plain None = plain
raised plain (Some other) = highest_first plain other

-- The level that a user holds, at a console if one is given, with its source.
abbrev pub held_from : Profile → User → Option (List ℕ) → List (List ℕ) → HeldLevel
held_from p user None groups = plain_source p user groups
held_from p user (Some console) groups =
    raised (plain_source p user groups) (first_source p.entries (Some console) user groups)

-- The source gives this level: the entry is in the access list, and it is for the user.
abbrev pub gives : Profile → User → List (List ℕ) → Level → Option (List ℕ) → LevelSource → Type 0
gives p user groups held when Own = entry_level p.entries when user.id ≡ Some held
gives p user groups held when (Group group) = Contains groups group × (entry_level p.entries when group ≡ Some held)
gives p user groups held when Everyone =
    (user.restricted ≡ false) × (entry_level p.entries when (codes "*") ≡ Some held)
gives p user groups held when Universal = (user.restricted ≡ false) × (when ≡ None) × (held ≡ p.uacc)
gives p user groups held when Restricted = (user.restricted ≡ true) × (when ≡ None) × (held ≡ level.None)

abbrev pub IsGiven : Profile → User → List (List ℕ) → HeldLevel → Type 0
IsGiven p user groups held = gives p user groups held.level held.when held.source
