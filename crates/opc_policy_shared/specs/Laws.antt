-- The laws of the shared search.
use Rattle.std.specs.Prelude.{◌≡◌, ℕ, List, ◌++◌, Contains}
use Rattle.opc_names.specs.declared.class.Class.{Class}
use Rattle.opc_policy_members.specs.Profiles.{AreProfiles}
use Rattle.opc_policy_members.specs.declared.profile.Profile.{Profile}
use Rattle.opc_policy.specs.Deciding.{deciding}
use Rattle.opc_policy_shared.specs.Shared.{AreCandidates}

-- Among the candidates for names with a beginning, the same profile decides such a name as among all of a class.
abbrev pub CandidatesDecide : Type 0
CandidatesDecide =
    (profiles candidates : List Profile) (class : Class) (beginning rest : List ℕ) → AreProfiles profiles
    → ((p : Profile) → Contains profiles p → p.class ≡ class) → AreCandidates beginning profiles candidates
    → deciding candidates (beginning ++ rest) ≡ deciding profiles (beginning ++ rest)
