-- The profiles of a policy, in their order.
use Rattle.std.specs.Prelude.{◌≡◌, ◌≢◌, ℕ, Bool, true, ◌&&◌, List, Option, find, filter, All}
use Rattle.std.specs.BTreeMap.Range.{is_from_start}
use Rattle.std.specs.BTreeSet.{replace_key}
use Rattle.std.specs.Cmp.Lexicographic.{slice_cmp}
use Rattle.std.specs.List.{AllPairs}
use Rattle.std.specs.Option.{option_map_or}
use Rattle.std.specs.Ordering.{nat_cmp, is_lt, ordering_then}
use Rattle.std.specs.Str.{bytes_eq}
use Rattle.std.specs.declared.cmp.Ordering.{Ordering}
use Rattle.std.specs.declared.ops.Bound.{Bound}
use Rattle.std.specs.declared.cmp.Ordering.TheVariants.{Less, Equal, Greater}
use Rattle.opc_names.specs.Authority.{same_class}
use Rattle.opc_names.specs.Names.{IsPattern}
use Rattle.opc_names.specs.Order.{sort_key}
use Rattle.opc_names.specs.declared.class.Class.{Class}
use Rattle.opc_names.specs.declared.class.Class.TheVariants.{Console, Opercmds}
use Rattle.opc_policy_members.specs.declared.entry.Entry.{Entry}
use Rattle.opc_policy_members.specs.declared.profile.Profile.{Profile}
use Rattle.opc_policy_members.specs.Access.{with_entry}

-- The profiles of a policy: their patterns are patterns, and no two have one class and one pattern.
pub record AreProfiles (profiles : List Profile) : Type 0 where
  pub patterns : All (λ (p : Profile). IsPattern p.pattern) profiles
  pub distinct : AllPairs (λ (p q : Profile). p.class ≡ q.class → p.pattern ≢ q.pattern) profiles

-- the profiles of a class
abbrev pub of_class : Class → List Profile → List Profile
of_class class profiles = filter (λ (p : Profile). same_class p.class class) profiles

-- CONSOLE before OPERCMDS
abbrev pub class_cmp : Class → Class → Ordering
class_cmp Console Console = Equal
class_cmp Console Opercmds = Less
class_cmp Opercmds Console = Greater
class_cmp Opercmds Opercmds = Equal

-- patterns by their sort keys
abbrev pub pattern_cmp : List ℕ → List ℕ → Ordering
pattern_cmp p q = slice_cmp nat_cmp (sort_key p) (sort_key q)

-- profiles by class, and those of one class by their patterns
abbrev pub profile_cmp : Profile → Profile → Ordering
profile_cmp p q = ordering_then (class_cmp p.class q.class) (pattern_cmp p.pattern q.pattern)

-- whether a profile is that of a class and a pattern
abbrev pub is_of : Class → List ℕ → Profile → Bool
is_of class pattern profile = same_class profile.class class && bytes_eq profile.pattern pattern

-- the profile of a class and a pattern
abbrev pub profile_of : List Profile → Class → List ℕ → Option Profile
profile_of profiles class pattern = find (is_of class pattern) profiles

-- the profiles with this one, which replaces one of its class and pattern
abbrev pub with_profile : Profile → List Profile → List Profile
with_profile profile profiles = replace_key profile_cmp profiles profile

-- the profiles with this one, which keeps the access list of one that it replaces
abbrev pub with_definition : Profile → List Profile → List Profile
with_definition profile profiles =
    with_profile (record profile {
      entries = option_map_or (λ (p : Profile). p.entries)
          (profile_of profiles profile.class profile.pattern) profile.entries;
    }) profiles

-- the profiles with this entry in the access list of one, if it is there
abbrev pub with_permission : Class → List ℕ → Entry → List Profile → List Profile
with_permission class pattern entry profiles =
    option_map_or (λ (p : Profile). with_profile (record p { entries = with_entry entry p.entries }) profiles)
    (profile_of profiles class pattern) profiles

-- whether one profile comes before another, by their sort keys
abbrev pub is_before : Profile → Profile → Bool
is_before p q = is_lt (slice_cmp nat_cmp (sort_key p.pattern) (sort_key q.pattern))

-- of two profiles of one class the earlier in a list comes before
abbrev pub AreMostSpecificFirst : List Profile → Type 0
AreMostSpecificFirst profiles = AllPairs (λ (p q : Profile). p.class ≡ q.class → is_before p q ≡ true) profiles

-- whether a profile is of a class and its sort key is at a start or after it
abbrev pub is_of_from : Class → (start : Bound (List ℕ)) → Profile → Bool
is_of_from class start p = same_class p.class class && is_from_start (slice_cmp nat_cmp) start (sort_key p.pattern)
