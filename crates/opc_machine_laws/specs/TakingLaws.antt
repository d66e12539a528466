-- What operations of administration and rows of an import make of the state, for those who send them.
use Rattle.std.specs.Prelude.{◌≡◌, ◌≢◌, ◌↔◌, ℕ, true, false, List, [], ◌∷◌, Option, Some, None, Ok, Err, Contains}
use Rattle.opc_terms.specs.declared.fault.Fault.TheVariants.{NotEmpty}
use Rattle.opc_policy_members.specs.declared.policy.Policy.{Policy}
use Rattle.opc_policy_members.specs.declared.profile.Profile.{Profile}
use Rattle.opc_policy_members.specs.declared.row.Row.{Row}
use Rattle.opc_policy_members.specs.declared.row.Row.TheVariants as rows
use Rattle.opc_policy_members.specs.declared.user.User.{User}
use Rattle.opc_policy_members.specs.Members.{with_connect, with_group, with_user}
use Rattle.opc_policy_members.specs.Profiles.{with_definition, with_permission}
use Rattle.opc_policy_members.specs.Taken.{after_row, with_active}
use Rattle.opc_board.specs.declared.board.BoardRows.{BoardRows}
use Rattle.opc_board.specs.Consoles.{console_defined}
use Rattle.opc_board.specs.Invariants.{has_master}
use Rattle.opc_state.specs.declared.change.Batch.{Batch}
use Rattle.opc_state.specs.Members.{without_connect, without_permission, without_profile, without_user}
use Rattle.opc_state.specs.State.{State}
use Rattle.opc_machine.specs.declared.operation.Operation.{Operation}
use Rattle.opc_machine.specs.declared.operation.Operation.TheVariants as operation
use Rattle.opc_machine.specs.Administration.{changed}
use Rattle.opc_machine.specs.Bootstrap.{bootstrapped, with_rows}
use Rattle.opc_machine.specs.Imports.{batch_of}

-- The state has these users and is otherwise as it was, and the same for other parts of it.
abbrev pub HasUsers : State → List User → State → Type 0
HasUsers old users new = new ≡ record old { policy = record old.policy { users = users } }

abbrev pub HasProfiles : State → List Profile → State → Type 0
HasProfiles old profiles new = new ≡ record old { policy = record old.policy { profiles = profiles } }

-- An operation does this and nothing else. A profile that is defined or altered keeps the access list that is there.
abbrev pub IsDoneTo : State → Operation → State → Type 0
IsDoneTo old (operation.AddUser id special auditor digest restricted) new =
    HasUsers old (with_user (record {
      id = id;
      special = special;
      auditor = auditor;
      revoked = false;
      digest = digest;
      restricted = restricted;
    }) old.policy.users) new
IsDoneTo old (operation.AltUser id special auditor revoked digest restricted) new =
    HasUsers old (with_user (record {
      id = id;
      special = special;
      auditor = auditor;
      revoked = revoked;
      digest = digest;
      restricted = restricted;
    }) old.policy.users) new
IsDoneTo old (operation.DelUser id) new = HasUsers old (without_user id old.policy.users) new
IsDoneTo old (operation.AddGroup name) new =
    new ≡ record old { policy = record old.policy { groups = with_group name old.policy.groups } }
IsDoneTo old (operation.Connect user group) new = new ≡ record old {
  policy = record old.policy {
    connects = with_connect (record {
      user = user;
      group = group;
    }) old.policy.connects;
  };
}
IsDoneTo old (operation.Remove user group) new = new ≡ record old {
  policy = record old.policy {
    connects = without_connect (record {
      user = user;
      group = group;
    }) old.policy.connects;
  };
}
IsDoneTo old (operation.RDefine class pattern owner uacc warning) new =
    HasProfiles old (with_definition (record {
      class = class;
      pattern = pattern;
      owner = owner;
      uacc = uacc;
      warning = warning;
      entries = [];
    }) old.policy.profiles) new
IsDoneTo old (operation.RAlter class pattern owner uacc warning) new =
    HasProfiles old (with_definition (record {
      class = class;
      pattern = pattern;
      owner = owner;
      uacc = uacc;
      warning = warning;
      entries = [];
    }) old.policy.profiles) new
IsDoneTo old (operation.RDelete class pattern) new =
    HasProfiles old (without_profile class pattern old.policy.profiles) new
IsDoneTo old (operation.Permit class pattern id level when) new =
    HasProfiles old (with_permission class pattern (record {
      id = id;
      when = when;
      level = level;
    }) old.policy.profiles) new
IsDoneTo old (operation.PermitDelete class pattern id when) new =
    HasProfiles old (without_permission class pattern id when old.policy.profiles) new
IsDoneTo old (operation.ClassActive class active) new =
    new ≡ record old { policy = record old.policy { active = with_active class active old.policy.active } }
IsDoneTo old (operation.DefineConsole name auth mode) new =
    new ≡ record old { board = console_defined name auth mode old.board }

abbrev pub OperationsDoWhatTheySay : Type 0
OperationsDoWhatTheySay = (s : State) (o : Operation) (new : State) → changed s o ≡ Ok new → IsDoneTo s o new

-- If an online console has AUTH MASTER, one has it afterwards.
abbrev pub KeepsMaster : State → State → Type 0
KeepsMaster old new = has_master old.board.consoles ≡ true → has_master new.board.consoles ≡ true

abbrev pub OperationsKeepAMaster : Type 0
OperationsKeepAMaster = (s : State) (o : Operation) (new : State) → changed s o ≡ Ok new → KeepsMaster s new

-- Rows are taken one after another, each by the policy that the one before it left,
abbrev pub AreTaken : List Row → Policy → Policy → Type 0
AreTaken [] old new = new ≡ old
AreTaken (row ∷ more) old new = (next : Policy) × (after_row row old ≡ Ok next) × AreTaken more next new

-- and the same for their consoles, which have none.
abbrev pub with_console_of : Row → BoardRows → BoardRows
with_console_of (rows.Console name auth mode) b = console_defined name auth mode b
with_console_of other b = b

abbrev pub AreDefined : List Row → BoardRows → BoardRows → Type 0
AreDefined [] old new = new ≡ old
AreDefined (row ∷ more) old new = AreDefined more (with_console_of row old) new

-- All rows are taken, and nothing else changes.
pub record AreTakenWhole (all : List Row) (old new : State) : Type 0 where
  pub policy : AreTaken all old.policy new.policy
  pub board : AreDefined all old.board new.board
  pub master : KeepsMaster old new
  pub account : new.account ≡ old.account
  pub batches : new.batches ≡ old.batches

abbrev pub RowsAreTakenInTurn : Type 0
RowsAreTakenInTurn = (all : List Row) (s new : State) → (with_rows all s ≡ Ok new) ↔ AreTakenWhole all s new

-- The batch that is stored under a number has that number, and if none is found, none has it.
pub record IsFoundByNumber (batches : List Batch) (number : ℕ) (kept : Option Batch) : Type 0 where
  pub found : (batch : Batch) → kept ≡ Some batch → Contains batches batch × (batch.number ≡ number)
  pub none : kept ≡ None → (batch : Batch) → Contains batches batch → batch.number ≢ number

abbrev pub BatchesAreFoundByNumber : Type 0
BatchesAreFoundByNumber = (batches : List Batch) (number : ℕ) → IsFoundByNumber batches number (batch_of batches number)

-- A first policy is taken as the rows of an import are, and only if no user is stored.
pub record IsFirst (all : List Row) (s : State) : Type 0 where
  pub stored : (user : User) → Contains s.policy.users user → bootstrapped all s ≡ Err NotEmpty
  pub empty : s.policy.users ≡ [] → bootstrapped all s ≡ with_rows all s

abbrev pub FirstPoliciesAreFirst : Type 0
FirstPoliciesAreFirst = (all : List Row) (s : State) → IsFirst all s
