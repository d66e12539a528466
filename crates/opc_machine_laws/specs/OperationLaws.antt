-- What operations of administration leave in a policy, for those who look at it afterwards.
use Rattle.std.specs.Prelude.{◌≡◌, ℕ, false, List, None, Ok}
use Rattle.std.specs.List.{AllByRecursion}
use Rattle.opc_names.specs.declared.class.Class.{Class}
use Rattle.opc_names.specs.Names.{IsPattern}
use Rattle.opc_policy_members.specs.declared.policy.Policy.{Policy}
use Rattle.opc_policy_members.specs.declared.row.Row.TheVariants as rows
use Rattle.opc_policy_members.specs.Members.{user_of}
use Rattle.opc_policy_members.specs.Profiles.{profile_of}
use Rattle.opc_state.specs.Loads.{is_connected}
use Rattle.opc_state.specs.State.{State}
use Rattle.opc_machine.specs.declared.operation.Operation.{Operation}
use Rattle.opc_machine.specs.declared.operation.Operation.TheVariants as operation
use Rattle.opc_machine.specs.Administration.{changed}
use Rattle.opc_machine_laws.specs.RowLaws.{HasPattern, HasTaken, IsKept, IsOther, IsPermitted}

-- The profile is gone with its access list, and no other.
pub record ProfileLeaves (class : Class) (pattern : List ℕ) (old new : Policy) : Type 0 where
  pub gone : profile_of new.profiles class pattern ≡ None
  pub others : (c : Class) (p : List ℕ) →
      IsOther c p class pattern → profile_of new.profiles c p ≡ profile_of old.profiles c p

-- An operation that defines, alters or permits leaves what the row of an import leaves: what it names as it states, and
-- everything else as it was. One that deletes leaves nothing of what it names, and everything else.
abbrev pub HasChanged : Operation → Policy → Policy → Type 0
HasChanged (operation.AddUser id special auditor digest restricted) old new =
    HasTaken (rows.User (record {
      id = id;
      special = special;
      auditor = auditor;
      revoked = false;
      digest = digest;
      restricted = restricted;
    })) old new
HasChanged (operation.AltUser id special auditor revoked digest restricted) old new =
    HasTaken (rows.User (record {
      id = id;
      special = special;
      auditor = auditor;
      revoked = revoked;
      digest = digest;
      restricted = restricted;
    })) old new
HasChanged (operation.DelUser id) old new =
    IsKept (user_of old.users) (user_of new.users) id None × (new ≡ record old { users = new.users })
HasChanged (operation.AddGroup name) old new = HasTaken (rows.Group name) old new
HasChanged (operation.Connect user group) old new = HasTaken (rows.Connect user group) old new
HasChanged (operation.Remove user group) old new =
    IsKept (λ (c : List ℕ × List ℕ). is_connected old c.0 c.1) (λ (c : List ℕ × List ℕ). is_connected new c.0 c.1)
    (user, group) false × (new ≡ record old { connects = new.connects })
HasChanged (operation.RDefine class pattern owner uacc warning) old new =
    HasTaken (rows.Profile class pattern uacc owner warning) old new
HasChanged (operation.RAlter class pattern owner uacc warning) old new =
    HasTaken (rows.Profile class pattern uacc owner warning) old new
HasChanged (operation.RDelete class pattern) old new =
    ProfileLeaves class pattern old new × (new ≡ record old { profiles = new.profiles })
HasChanged (operation.Permit class pattern id level when) old new =
    HasTaken (rows.Permit class pattern id level when) old new
HasChanged (operation.PermitDelete class pattern id when) old new =
    IsPermitted class pattern id when None old new × (new ≡ record old { profiles = new.profiles })
HasChanged (operation.ClassActive class active) old new = HasTaken (rows.Class class active) old new
HasChanged (operation.DefineConsole name auth mode) old new = new ≡ old

-- A profile that is defined or altered has a pattern.
abbrev pub IsPatterned : Operation → Type 0
IsPatterned (operation.RDefine class pattern owner uacc warning) = IsPattern pattern
IsPatterned (operation.RAlter class pattern owner uacc warning) = IsPattern pattern
IsPatterned other = Unit {0}

abbrev pub OperationsChangeWhatTheyName : Type 0
OperationsChangeWhatTheyName = (s : State) (o : Operation) (new : State) → AllByRecursion HasPattern s.policy.profiles
    → IsPatterned o → changed s o ≡ Ok new → HasChanged o s.policy new.policy
