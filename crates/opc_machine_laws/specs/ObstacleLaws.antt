-- What is in the way of an operation of administration, for those who are refused.
use Rattle.std.specs.Prelude.{
  ◌≡◌,
  ◌⊎◌,
  ℕ,
  Bool,
  false,
  not,
  ◌||◌,
  if◌then◌else◌,
  is_some,
  List,
  [],
  ◌∷◌,
  Option,
  Some,
  None,
  Ok,
  Err,
}
use Rattle.std.specs.List.{list_any}
use Rattle.std.specs.Option.{option_map_or}
use Rattle.opc_names.specs.declared.class.Class.{Class}
use Rattle.opc_terms.specs.declared.fault.Fault.{Fault}
use Rattle.opc_terms.specs.declared.fault.Fault.TheVariants.{Exists, InUse, LastMaster, Missing}
use Rattle.opc_policy_members.specs.declared.policy.Policy.{Policy}
use Rattle.opc_policy_members.specs.declared.profile.Profile.{Profile}
use Rattle.opc_policy_members.specs.Access.{is_for}
use Rattle.opc_policy_members.specs.Profiles.{profile_of}
use Rattle.opc_policy_members.specs.Taken.{has_group, has_holder, has_user}
use Rattle.opc_board.specs.Replies.{is_on}
use Rattle.opc_state.specs.Loads.{is_connected, is_named}
use Rattle.opc_state.specs.State.{State}
use Rattle.opc_machine.specs.declared.operation.Operation.{Operation}
use Rattle.opc_machine.specs.declared.operation.Operation.TheVariants as operation
use Rattle.opc_machine.specs.Administration.{changed}
use Rattle.opc_machine_laws.specs.TakingLaws.{IsDoneTo, KeepsMaster}

abbrev pub is_defined : Policy → Class → List ℕ → Bool
is_defined p class pattern = is_some (profile_of p.profiles class pattern)

-- whether an access list has an entry for an id, and for a console alone or, if none is given, for every console
abbrev pub is_listed : Policy → Class → List ℕ → List ℕ → Option (List ℕ) → Bool
is_listed p class pattern id when = option_map_or (λ (profile : Profile). list_any (is_for when id) profile.entries)
    (profile_of p.profiles class pattern) false

-- What may be in the way of an operation, in the order of its report: a name that a user or a group has already, one
-- that is not stored, a user whom a connect, an owner or an access list names, or who is logged on.
abbrev pub obstacles : State → Operation → List (Bool × Fault)
obstacles s (operation.AddUser id special auditor digest restricted) =
    (has_user s.policy id || has_group s.policy id, Exists id) ∷ []
obstacles s (operation.AltUser id special auditor revoked digest restricted) =
    (not (has_user s.policy id), Missing id) ∷ []
obstacles s (operation.DelUser id) =
    (not (has_user s.policy id), Missing id) ∷ (is_named s.policy id || is_on id s.board, InUse id) ∷ []
obstacles s (operation.AddGroup name) = (has_user s.policy name || has_group s.policy name, Exists name) ∷ []
obstacles s (operation.Connect user group) =
    (not (has_user s.policy user), Missing user) ∷ (not (has_group s.policy group), Missing group)
    ∷ (is_connected s.policy user group, Exists group) ∷ []
obstacles s (operation.Remove user group) =
    (not (has_user s.policy user), Missing user) ∷ (not (has_group s.policy group), Missing group)
    ∷ (not (is_connected s.policy user group), Missing group) ∷ []
obstacles s (operation.RDefine class pattern owner uacc warning) =
    (is_defined s.policy class pattern, Exists pattern) ∷ (not (has_user s.policy owner), Missing owner) ∷ []
obstacles s (operation.RAlter class pattern owner uacc warning) =
    (not (is_defined s.policy class pattern), Missing pattern) ∷ (not (has_user s.policy owner), Missing owner) ∷ []
obstacles s (operation.RDelete class pattern) = (not (is_defined s.policy class pattern), Missing pattern) ∷ []
obstacles s (operation.Permit class pattern id level when) =
    (not (is_defined s.policy class pattern), Missing pattern) ∷ (not (has_holder s.policy id), Missing id) ∷ []
obstacles s (operation.PermitDelete class pattern id when) =
    (not (is_defined s.policy class pattern), Missing pattern)
    ∷ (not (is_listed s.policy class pattern id when), Missing id) ∷ []
obstacles s (operation.ClassActive class active) = []
obstacles s (operation.DefineConsole name auth mode) = []

abbrev pub first_obstacle : {F : Type 0} → List (Bool × F) → Option F
first_obstacle [] = None
first_obstacle (obstacle ∷ more) = if obstacle.0 then Some obstacle.1 else first_obstacle more

-- The first of these is the fault of the operation.
abbrev pub ObstaclesAreFaults : Type 0
ObstaclesAreFaults = (s : State) (o : Operation) (fault : Fault) → first_obstacle (obstacles s o) ≡ Some fault
    → changed s o ≡ Err fault

-- Without any it is done, unless that would lose the last online console with AUTH MASTER.
pub record IsDoneOrLastMaster (s : State) (o : Operation) : Type 0 where
  pub new : State
  pub done : IsDoneTo s o new
  pub ends : (KeepsMaster s new × (changed s o ≡ Ok new)) ⊎ ((KeepsMaster s new → ⊥) × (changed s o ≡ Err LastMaster))

abbrev pub OperationsAreDoneWithoutObstacle : Type 0
OperationsAreDoneWithoutObstacle = (s : State) (o : Operation) → first_obstacle (obstacles s o) ≡ None
    → IsDoneOrLastMaster s o
