-- The level that a user holds in a profile.
use Rattle.std.specs.Prelude.{◌≡◌, ℕ, List, Option, Some, None, filter, if◌then◌else◌, map, unwrap_or}
use Rattle.opc_names.specs.declared.level.Level.{Level}
use Rattle.opc_names.specs.declared.level.Level.TheVariants as level
use Rattle.opc_policy_members.specs.Access.{first_level, higher_level}
use Rattle.opc_policy_members.specs.Members.{is_group}
use Rattle.opc_policy_members.specs.declared.entry.Entry.{Entry}
use Rattle.opc_policy_members.specs.declared.profile.Profile.{Profile}
use Rattle.opc_policy_members.specs.declared.user.User.{User}

-- what a profile gives to users without an entry: its universal access, of which a RESTRICTED user gets nothing
abbrev pub universal_level : Profile → User → Level
universal_level profile user = if user.restricted then level.None else profile.uacc

-- the level by the entries that hold at every console, and last by the universal access
abbrev pub plain_level : Profile → User → List (List ℕ) → Level
plain_level profile user groups = unwrap_or (first_level profile.entries None user groups)
    (universal_level profile user)

-- the level by the entries for one console alone; without a console none of them counts
abbrev pub conditional_level : Profile → User → Option (List ℕ) → List (List ℕ) → Level
conditional_level profile user None groups = level.None
conditional_level profile user (Some console) groups =
    unwrap_or (first_level profile.entries (Some console) user groups) level.None

-- The higher of both, so that an entry for a console raises a level there and never lowers one. The groups are the
-- user's connect groups. SPECIAL, AUDITOR and WARNING give no level. (RACF guide: how access to a resource is checked;
-- the rule of conditional entries and RESTRICTED users is this product's own.)
unfoldable pub held : Profile → User → Option (List ℕ) → List (List ℕ) → Level
held profile user console groups = higher_level (plain_level profile user groups)
    (conditional_level profile user console groups)

-- those groups for which an access list has entries, as often as it has them
abbrev pub listed_groups : List Entry → List (List ℕ) → List (List ℕ)
listed_groups entries groups = filter (is_group groups) (map (λ (e : Entry). e.id) entries)

-- Of a user's groups, those with an entry suffice.
abbrev pub ListedGroupsSuffice : Type 0
ListedGroupsSuffice = (p : Profile) (user : User) (console : Option (List ℕ)) (groups : List (List ℕ))
    → held p user console (listed_groups p.entries groups) ≡ held p user console groups
