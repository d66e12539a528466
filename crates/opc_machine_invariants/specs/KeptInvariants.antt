-- The invariants of a state hold as long as the machine runs.
use Rattle.std.specs.Prelude.{◌≡◌, ℕ, List, Ok}
use Rattle.std.specs.List.{AllByRecursion}
use Rattle.std.specs.Ordering.{is_lt}
use Rattle.opc_policy_members.specs.declared.connect.Connect.{Connect}
use Rattle.opc_policy_members.specs.declared.entry.Entry.{Entry}
use Rattle.opc_policy_members.specs.declared.policy.Policy.{Policy}
use Rattle.opc_policy_members.specs.declared.profile.Profile.{Profile}
use Rattle.opc_policy_members.specs.declared.row.Row.{Row}
use Rattle.opc_policy_members.specs.declared.user.User.{User}
use Rattle.opc_policy_members.specs.Access.{entry_cmp}
use Rattle.opc_policy_members.specs.Members.{connect_cmp, name_cmp, user_cmp}
use Rattle.opc_policy_members.specs.Profiles.{profile_cmp}
use Rattle.opc_rows.specs.Ordered.{Ascends}
use Rattle.opc_state.specs.Invariants.{IsKeyed, IsState}
use Rattle.opc_state.specs.State.{State, empty}
use Rattle.opc_machine.specs.declared.request.Answer.{Answer}
use Rattle.opc_machine.specs.Bootstrap.{bootstrapped}
use Rattle.opc_machine.specs.Inputs.{Input}
use Rattle.opc_machine.specs.Machine.{Runs, Step}

-- What a policy has is in the order of the keys, and no key comes twice: users, groups, connects, profiles, and the
-- entries of each access list.
pub record IsInKeyOrder (p : Policy) : Type 0 where
  pub users : Ascends (λ (u v : User). is_lt (user_cmp u v)) p.users
  pub groups : Ascends (λ (g h : List ℕ). is_lt (name_cmp g h)) p.groups
  pub connects : Ascends (λ (c d : Connect). is_lt (connect_cmp c d)) p.connects
  pub profiles : Ascends (λ (q r : Profile). is_lt (profile_cmp q r)) p.profiles
  pub entries : AllByRecursion (λ (q : Profile). Ascends (λ (e f : Entry). is_lt (entry_cmp e f)) q.entries) p.profiles

pub record HasInvariants (s : State) : Type 0 where
  pub state : IsState s
  pub order : IsInKeyOrder s.policy

-- The empty state has them,
abbrev pub EmptyHasInvariants : Type 0
EmptyHasInvariants = HasInvariants empty

-- and by them, what a state keeps by keys is found by the keys.
abbrev pub InvariantsGiveKeys : Type 0
InvariantsGiveKeys = (s : State) → HasInvariants s → IsKeyed s

-- Each step keeps them, whatever the request,
abbrev pub StepsKeepInvariants : Type 0
StepsKeepInvariants = (s : State) (moment : ℕ) (r : Input) (answer : Answer) (new : State) → HasInvariants s
    → Step s moment r answer new → HasInvariants new

-- so does each run,
abbrev pub RunsKeepInvariants : Type 0
RunsKeepInvariants = (s : State) (requests : List (ℕ × Input)) (answers : List Answer) (new : State) → HasInvariants s
    → Runs s requests answers new → HasInvariants new

-- and a first policy.
abbrev pub BootstrapsKeepInvariants : Type 0
BootstrapsKeepInvariants = (more : List Row) (s new : State) → HasInvariants s → bootstrapped more s ≡ Ok new
    → HasInvariants new
