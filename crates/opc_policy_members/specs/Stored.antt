-- How a policy is kept in memory.
use Rattle.std.specs.Prelude.{◌≡◌, ℕ, List, []}
use Rattle.std.specs.List.{AllByRecursion}
use Rattle.std.specs.declared.ops.Bound.{Bound}
use Rattle.std.specs.declared.ops.Bound.TheVariants.{Included, Excluded, Unbounded}
use Rattle.opc_names.specs.Names.{IsPattern}
use Rattle.opc_names.specs.Order.{sort_key}
use Rattle.opc_names.specs.declared.class.Class.{Class}
use Rattle.opc_policy_members.specs.declared.profile.Profile.{Profile}
use Rattle.opc_policy_members.specs.declared.user.User.{User}

-- each user is at its id
abbrev pub AreById : List (List ℕ × User) → Type 0
AreById entries = AllByRecursion (λ (e : List ℕ × User). e.0 ≡ e.1.id) entries

-- a profile is at its class and sort key
abbrev pub IsAtItsKey : (Class × List ℕ) × Profile → Type 0
IsAtItsKey e = (e.0.0 ≡ e.1.class) × (e.0.1 ≡ sort_key e.1.pattern) × IsPattern e.1.pattern

-- each profile is at its key
abbrev pub AreByKey : List ((Class × List ℕ) × Profile) → Type 0
AreByKey entries = AllByRecursion IsAtItsKey entries

-- where the keys of a class start that are at a sort key or after it
abbrev pub key_bound : Class → Bound (List ℕ) → Bound (Class × List ℕ)
key_bound class (Included key) = Included (class, key)
key_bound class (Excluded key) = Excluded (class, key)
key_bound class Unbounded = Included (class, [])
