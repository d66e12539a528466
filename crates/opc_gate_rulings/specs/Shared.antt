-- What is known of a state if many lines are ruled on.
use Rattle.std.specs.Prelude.{◌≡◌, ℕ, List, map, Option, Some, None, IfSome, slice_get, slice_index_or}
use Rattle.opc_names.specs.declared.class.Class.TheVariants.{Opercmds}
use Rattle.opc_names.specs.declared.level.Level.{Level}
use Rattle.opc_policy_members.specs.Profiles.{AreProfiles, of_class}
use Rattle.opc_policy_members.specs.declared.profile.Profile.{Profile}
use Rattle.opc_policy_members.specs.declared.user.User.{User}
use Rattle.opc_policy_shared.specs.Shared.{AreCandidates}
use Rattle.opc_state.specs.Invariants.{IsKeyed}
use Rattle.opc_state.specs.Loads.{bare}
use Rattle.opc_state.specs.State.{State}
use Rattle.opc_gate_rulings.specs.Held.{held_in}

-- the profiles of class OPERCMDS, but for their access lists
abbrev pub opercmds : State → List Profile
opercmds s = map bare (of_class Opercmds s.policy.profiles)

-- The candidates for names with a beginning are loaded, of a state that keeps its profiles by their keys.
pub record AreLoaded (s : State) (beginning : List ℕ) (candidates : List Profile) : Type 0 where
  pub loaded : AreCandidates beginning (opercmds s) candidates
  pub valid : AreProfiles (opercmds s)
  pub keyed : IsKeyed s

-- The levels that a user holds in candidates at a console, as far as they are known.
abbrev pub AreKnown : State → User → List ℕ → List Profile → List (Option Level) → Type 0
AreKnown s user console candidates levels = (place : ℕ) (p : Profile) → slice_get candidates place ≡ Some p
    → IfSome (slice_index_or levels place None) (λ level. level ≡ held_in s.policy p user console)
