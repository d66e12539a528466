-- Which profiles a search reads.
use Rattle.std.specs.Prelude.{ℕ, Bool, ◌&&◌, ◌||◌, not, nat_lt, nat_eq, List, Option, Some, None, filter, length}
use Rattle.std.specs.List.{starts_with}
use Rattle.std.specs.Str.{bytes_eq}
use Rattle.opc_names.specs.Authority.{same_class}
use Rattle.opc_names.specs.Order.{head}
use Rattle.opc_names.specs.declared.class.Class.{Class}
use Rattle.opc_names.specs.Patterns.{tokens}
use Rattle.opc_policy_members.specs.Profiles.{is_before}
use Rattle.opc_policy_members.specs.declared.profile.Profile.{Profile}

-- the head of a profile's pattern
abbrev pub head_of : Profile → List ℕ
head_of p = head (tokens p.pattern)

-- how long the head of the deciding profile is
abbrev pub head_length : Option Profile → ℕ
head_length None = 0
head_length (Some p) = length (head_of p)

-- the profiles with a head
abbrev pub with_head : List ℕ → List Profile → List Profile
with_head text profiles = filter (λ (p : Profile). bytes_eq (head_of p) text) profiles

-- whether a profile is of a class, and has the requested head, if one is given
abbrev pub is_chosen : Class → Option (List ℕ) → Profile → Bool
is_chosen class None p = same_class p.class class
is_chosen class (Some text) p = same_class p.class class && bytes_eq (head_of p) text

-- The profiles that are read, in the order of their patterns, up to the first that covers: it and those before it; all
-- of them if none covers.
abbrev pub read_until : Option Profile → List Profile → List Profile
read_until None profiles = profiles
read_until (Some d) profiles = filter (λ (p : Profile). not (is_before d p)) profiles

-- Which profiles a search by heads reads. If one decides: those whose head the name begins with and is longer than its
-- own, and those with its head that are it or before it; otherwise all whose head the name begins with.
abbrev pub is_examined : Option Profile → List ℕ → Profile → Bool
is_examined None name p = starts_with nat_eq name (head_of p)
is_examined (Some d) name p =
    starts_with nat_eq name (head_of p) && (nat_lt (length (head_of d)) (length (head_of p))
    || (bytes_eq (head_of p) (head_of d) && not (is_before d p)))

abbrev pub examined : Option Profile → List ℕ → List Profile → List Profile
examined decided name profiles = filter (is_examined decided name) profiles
