-- Which profile decides.
use Rattle.std.specs.Prelude.{ℕ, List, [], ◌∷◌, Option, Some, None, if◌then◌else◌, filter, Contains}
use Rattle.opc_names.specs.Order.{Before}
use Rattle.opc_names.specs.Patterns.{tokens, CoversText, covers_text}
use Rattle.opc_policy_members.specs.Profiles.{is_before}
use Rattle.opc_policy_members.specs.declared.profile.Profile.{Profile}

abbrev pub IsBefore : Profile → Profile → Type 0
IsBefore p q = Before (tokens p.pattern) (tokens q.pattern)

-- The most specific profile of a resource among some: the one that covers it and that comes before every other one that
-- covers it; none if none covers it (RACF guide: the most specific profile).
abbrev pub IsDeciding : List Profile → List ℕ → Option Profile → Type 0
IsDeciding profiles resource None = (q : Profile) → Contains profiles q → CoversText q.pattern resource → ⊥
IsDeciding profiles resource (Some p) = Contains profiles p × CoversText p.pattern resource
    × ((q : Profile) → Contains profiles q → CoversText q.pattern resource → IsBefore q p → ⊥)

-- The same, computed: the profiles that cover a resource,
abbrev pub covering : List ℕ → List Profile → List Profile
covering resource profiles = filter (λ (p : Profile). covers_text p.pattern resource) profiles

-- the first of some,
abbrev pub first_with : Profile → Option Profile → Profile
first_with p None = p
first_with p (Some q) = if is_before q p then q else p

abbrev pub first_of : List Profile → Option Profile
first_of [] = None
first_of (p ∷ profiles) = Some (first_with p (first_of profiles))

-- and the first of those that cover.
abbrev pub deciding : List Profile → List ℕ → Option Profile
deciding profiles resource = first_of (covering resource profiles)
