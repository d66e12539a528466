-- What an operation of administration makes of policy and consoles, or what is in its way.
use Rattle.std.specs.Prelude.{
  ℕ,
  Bool,
  false,
  not,
  ◌||◌,
  if◌then◌else◌,
  List,
  [],
  Option,
  None,
  Result,
  Ok,
  Err,
  is_some,
}
use Rattle.std.specs.List.{list_any}
use Rattle.std.specs.Option.{option_map_or}
use Rattle.opc_names.specs.declared.class.Class.{Class}
use Rattle.opc_names.specs.declared.level.Level.{Level}
use Rattle.opc_terms.specs.declared.fault.Fault.{Fault}
use Rattle.opc_terms.specs.declared.fault.Fault.TheVariants.{InUse}
use Rattle.opc_policy_members.specs.declared.policy.Policy.{Policy}
use Rattle.opc_policy_members.specs.declared.profile.Profile.{Profile}
use Rattle.opc_policy_members.specs.Access.{is_for}
use Rattle.opc_policy_members.specs.Members.{with_user, with_group, with_connect}
use Rattle.opc_policy_members.specs.Profiles.{profile_of, with_permission}
use Rattle.opc_policy_members.specs.Taken.{
  has_user,
  has_group,
  has_holder,
  unless,
  needing,
  with_active,
  after_definition,
}
use Rattle.opc_board.specs.declared.board.BoardRows.{BoardRows}
use Rattle.opc_board.specs.Consoles.{console_defined}
use Rattle.opc_board.specs.Replies.{is_on}
use Rattle.opc_state.specs.Loads.{is_connected, is_named}
use Rattle.opc_state.specs.Members.{without_user, without_connect, without_profile, without_permission}
use Rattle.opc_state.specs.State.{State}
use Rattle.opc_machine.specs.Bootstrap.{with_rows_of}
use Rattle.opc_machine.specs.declared.operation.Operation.{Operation}
use Rattle.opc_machine.specs.declared.operation.Operation.TheVariants as operation
use Rattle.opc_machine.specs.Outcome.{StateOutcome, ◌>>=◌, does, or_refused, refuse_if}
use Rattle.opc_machine.specs.Rights.{console_asking, may_change, right_fault}

-- a user and a group never have one name
abbrev pub has_name : Policy → List ℕ → Bool
has_name p name = has_user p name || has_group p name

-- whether an access list has an entry for an id and for a console alone or, if none is given, for every console
abbrev pub has_entry_for : Option (List ℕ) → List ℕ → Profile → Bool
has_entry_for when id p = list_any (is_for when id) p.entries

abbrev pub is_permitted : Policy → Class → List ℕ → List ℕ → Option (List ℕ) → Bool
is_permitted p class pattern id when = option_map_or (has_entry_for when id) (profile_of p.profiles class pattern) false

-- A user is in use if the user is connected to a group, owns a profile, has an entry in an access list, or is logged on
-- at a console.
abbrev pub is_in_use : Policy → BoardRows → List ℕ → Bool
is_in_use p b id = is_named p id || is_on id b

abbrev pub unless_in_use : Bool → List ℕ → Result Policy Fault → Result Policy Fault
unless_in_use used id made = if used then Err (InUse id) else made

-- a profile as it is defined, without its access list
abbrev pub definition : Class → List ℕ → List ℕ → Level → Bool → Profile
definition class pattern owner uacc warning = record {
  class = class;
  pattern = pattern;
  owner = owner;
  uacc = uacc;
  warning = warning;
  entries = [];
}

-- The policy after an operation, or the fault of the first thing in the way, in the order in which the operation lists
-- its fields (RACF guide: the commands of these names). A profile that is altered keeps its access list, and a deleted
-- one loses it. Consoles are not part of a policy.
abbrev pub policy_changed : BoardRows → Operation → Policy → Result Policy Fault
policy_changed b (operation.AddUser id special auditor digest restricted) p =
    unless (has_name p id) id
    (Ok (record p {
      users = with_user (record {
        id = id;
        special = special;
        auditor = auditor;
        revoked = false;
        digest = digest;
        restricted = restricted;
      }) p.users;
    }))
policy_changed b (operation.AltUser id special auditor revoked digest restricted) p =
    needing (has_user p id) id
    (Ok (record p {
      users = with_user (record {
        id = id;
        special = special;
        auditor = auditor;
        revoked = revoked;
        digest = digest;
        restricted = restricted;
      }) p.users;
    }))
policy_changed b (operation.DelUser id) p =
    needing (has_user p id) id
    (unless_in_use (is_in_use p b id) id
    (Ok (record p { users = without_user id p.users })))
policy_changed b (operation.AddGroup name) p =
    unless (has_name p name) name (Ok (record p { groups = with_group name p.groups }))
policy_changed b (operation.Connect user group) p =
    needing (has_user p user) user
    (needing (has_group p group) group
    (unless (is_connected p user group) group
    (Ok (record p { connects = with_connect (record { user = user; group = group }) p.connects }))))
policy_changed b (operation.Remove user group) p =
    needing (has_user p user) user
    (needing (has_group p group) group
    (needing (is_connected p user group) group
    (Ok (record p { connects = without_connect (record { user = user; group = group }) p.connects }))))
policy_changed b (operation.RDefine class pattern owner uacc warning) p =
    unless (is_some (profile_of p.profiles class pattern)) pattern
    (after_definition (definition class pattern owner uacc warning) p)
policy_changed b (operation.RAlter class pattern owner uacc warning) p =
    needing (is_some (profile_of p.profiles class pattern)) pattern
    (after_definition (definition class pattern owner uacc warning) p)
policy_changed b (operation.RDelete class pattern) p =
    needing (is_some (profile_of p.profiles class pattern)) pattern
    (Ok (record p { profiles = without_profile class pattern p.profiles }))
policy_changed b (operation.Permit class pattern id level when) p =
    needing (is_some (profile_of p.profiles class pattern)) pattern
    (needing (has_holder p id) id
    (Ok (record p {
      profiles = with_permission class pattern (record {
        id = id;
        when = when;
        level = level;
      }) p.profiles;
    })))
policy_changed b (operation.PermitDelete class pattern id when) p =
    needing (is_some (profile_of p.profiles class pattern)) pattern
    (needing (is_permitted p class pattern id when) id
    (Ok (record p { profiles = without_permission class pattern id when p.profiles })))
policy_changed b (operation.ClassActive class active) p = Ok (record p { active = with_active class active p.active })
policy_changed b (operation.DefineConsole name auth mode) p = Ok p

abbrev pub board_changed : Operation → BoardRows → BoardRows
board_changed (operation.DefineConsole name auth mode) b = console_defined name auth mode b
board_changed other b = b

-- the state after an operation, unless that loses the last online console with AUTH MASTER
abbrev pub changed : State → Operation → Result State Fault
changed s o = with_rows_of s (board_changed o s.board) (policy_changed s.board o s.policy)

-- An operation of administration, requested at a console. It gives no line and has no rule.
abbrev pub admin_outcome : State → List ℕ → Operation → StateOutcome
admin_outcome s name o = do
  c ← console_asking s name
  _ ← refuse_if (right_fault o) None (not (may_change s c o))
  new ← or_refused (changed s o)
  does new [] None
