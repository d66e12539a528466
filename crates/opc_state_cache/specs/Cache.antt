-- Which pattern decides a name, and what a cache of it may keep.
use Rattle.std.specs.Prelude.{◌≡◌, ◌⊎◌, ℕ, Bool, true, false, ◌&&◌, if◌then◌else◌, List, [], ◌∷◌, Option, Contains}
use Rattle.std.specs.List.{list_any}
use Rattle.std.specs.Option.{is_none, option_map}
use Rattle.std.specs.Str.{bytes_eq}
use Rattle.lru.specs.LruCache.{lru_cache, put_entries}
use Rattle.opc_names.specs.Authority.{same_class}
use Rattle.opc_names.specs.declared.class.Class.{Class}
use Rattle.opc_policy_members.specs.declared.policy.Policy.{Policy}
use Rattle.opc_policy_members.specs.declared.profile.Profile.{Profile}
use Rattle.opc_policy_members.specs.Profiles.{profile_of}
use Rattle.opc_state.specs.declared.change.Edit.{Edit}
use Rattle.opc_state.specs.declared.change.Edit.TheVariants as edit
use Rattle.opc_state.specs.Invariants.{IsKeyed}
use Rattle.opc_state.specs.Meaning.{Meaning}
use Rattle.opc_state.specs.State.{State, deciding_in}
use Rattle.opc_state_cache.specs.Flags.{AreFlagsOf}
use Rattle.opc_state_cache.specs.Redefining.{redefines}
use Rattle.opc_state_cache.specs.declared.flags.Flags.{Flags}

-- a class and a resource
abbrev pub Name : Type 0
Name = Class × List ℕ

-- names with the pattern that decides each, or none, the most recently used first
abbrev pub Entries : Type 0
Entries = List (Name × Option (List ℕ))

abbrev pub same_name : Name → Name → Bool
same_name name other = same_class name.0 other.0 && bytes_eq name.1 other.1

abbrev pub pattern_of : Profile → List ℕ
pattern_of p = p.pattern

-- the pattern of the profile that decides, if one does
abbrev pub deciding_pattern : Policy → Name → Option (List ℕ)
deciding_pattern p name = option_map pattern_of (deciding_in p name.0 name.1)

-- Each cached name has the pattern that decides it, or none if none does.
abbrev pub IsRight : Policy → Entries → Type 0
IsRight p entries = (e : Name × Option (List ℕ)) → Contains entries e → e.1 ≡ deciding_pattern p e.0

-- Tables represent a state, and what is cached of it is right. If a name is cached, the state is in the order of its
-- keys, so that its profiles are found by their patterns.
pub record IsCached {T : Type 0} (m : Meaning T) (tables : T) (entries : Entries) (flags : Flags)
    (s : State) : Type 0 where
  pub represented : m.represents tables s
  pub known : AreFlagsOf s flags
  pub right : IsRight s.policy entries
  pub keyed : (e : Name × Option (List ℕ)) → Contains entries e → IsKeyed s

-- One more name is cached, or its allocation failed.
abbrev pub IsKeptWith : Entries → Entries → Name → Option (List ℕ) → Type 0
IsKeptWith old new name pattern = (new ≡ old) ⊎ (new ≡ put_entries same_name (lru_cache old 256) name pattern)

-- one edit alone: a profile that is there may be put again
abbrev pub adds_or_removes_profile : Policy → Edit → Bool
adds_or_removes_profile p (edit.PutProfile profile) = is_none (profile_of p.profiles profile.class profile.pattern)
adds_or_removes_profile p other = redefines other

-- whether edits may change which profile decides
abbrev pub invalidates : Policy → List Edit → Bool
invalidates p [] = false
invalidates p (e ∷ []) = adds_or_removes_profile p e
invalidates p (e ∷ (f ∷ more)) = list_any redefines (e ∷ f ∷ more)

-- what is cached as these edits are made: all of it, or nothing
abbrev pub remembered : Policy → List Edit → Entries → Entries
remembered p edits entries = if invalidates p edits then [] else entries
