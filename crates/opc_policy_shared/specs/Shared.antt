-- The profiles that may cover a name with a beginning.
use Rattle.std.specs.Prelude.{◌≡◌, ℕ, Bool, ◌&&◌, List, [], ◌∷◌, ◌++◌, filter, All, Contains, ◌⊎◌}
use Rattle.std.specs.Cmp.Lexicographic.{slice_cmp}
use Rattle.std.specs.List.Sorted.{IsSortedBy}
use Rattle.std.specs.Ordering.{nat_cmp, is_ge, is_le}
use Rattle.opc_names.specs.Names.{IsPattern}
use Rattle.opc_policy_members.specs.Profiles.{is_before}
use Rattle.opc_policy_members.specs.declared.profile.Profile.{Profile}
use Rattle.opc_policy.specs.Examined.{head_of}

-- a head lies between two texts, both among them
abbrev pub lies_between : List ℕ → List ℕ → List ℕ → Bool
lies_between first last head = is_ge (slice_cmp nat_cmp head first) && is_le (slice_cmp nat_cmp head last)

-- the profiles whose heads lie between two texts
abbrev pub with_heads_between : List ℕ → List ℕ → List Profile → List Profile
with_heads_between first last profiles = filter (λ (p : Profile). lies_between first last (head_of p)) profiles

-- a profile may cover a name with a beginning: its head goes on after the beginning, or ends within it
abbrev pub MayCover : List ℕ → Profile → Type 0
MayCover beginning p = (rest : List ℕ) × ((head_of p ≡ beginning ++ rest) ⊎ (beginning ≡ head_of p ++ rest))

-- Candidates among profiles for names with a beginning: some of them, and all of those that may cover such a name.
pub record AreCandidates (beginning : List ℕ) (profiles candidates : List Profile) : Type 0 where
  pub among : (p : Profile) → Contains candidates p → Contains profiles p
  pub all : (p : Profile) → Contains profiles p → MayCover beginning p → Contains candidates p

-- Profiles in memory: their patterns are patterns, and none is before an earlier one.
pub record AreSearchable (profiles : List Profile) : Type 0 where
  pub patterns : All (λ (p : Profile). IsPattern p.pattern) profiles
  pub order : IsSortedBy is_before profiles

-- A beginning of names, which ends with a period, and a text that no head which goes on after the beginning exceeds.
abbrev pub IsBeginning : List ℕ → List ℕ → Type 0
IsBeginning beginning last = (words : List ℕ) × (beginning ≡ words ++ 46 ∷ []) × (last ≡ words ++ 47 ∷ [])
