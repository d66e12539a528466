-- Refusals for lack of authority name their rule, whatever the request.
use Rattle.std.proofs.Common.{
  ℕ,
  Bool,
  true,
  false,
  ◌&&◌,
  if◌then◌else◌,
  is_some,
  List,
  [],
  ◌∷◌,
  Option,
  Some,
  None,
  Result,
  Ok,
  Err,
  refl,
}
use Rattle.std.specs.Option.{is_none}
use Rattle.opc_names.specs.declared.class.Class.{Class}
use Rattle.opc_terms.specs.declared.fault.Fault.{Fault}
use Rattle.opc_terms.specs.declared.fault.Fault.TheVariants as fault
use Rattle.opc_policy_members.specs.declared.policy.Policy.{Policy}
use Rattle.opc_policy_members.specs.declared.row.Row.{Row}
use Rattle.opc_policy_members.specs.declared.row.Row.TheVariants as rows
use Rattle.opc_terms.specs.declared.rule.Rule.{Rule}
use Rattle.opc_terms.specs.declared.rule.Rule.TheVariants as rule
use Rattle.opc_policy_members.specs.Profiles.{profile_of, with_definition, with_permission}
use Rattle.opc_policy_members.specs.Members.{with_user, with_group, with_connect}
use Rattle.opc_policy_members.specs.Taken.{after_row, has_user, has_group, has_holder, unless, needing, policy_after, then_policy}
use Rattle.opc_board.specs.declared.board.BoardRows.{BoardRows}
use Rattle.opc_board.specs.declared.rows.ConsoleRow.{ConsoleRow}
use Rattle.opc_state.specs.Members.{without_user, without_connect, without_profile, without_permission}
use Rattle.opc_state.specs.State.{State}
use Rattle.opc_state.specs.Loads.{is_connected}
use Rattle.opc_machine.specs.Administration.{
  policy_changed,
  definition,
  has_name,
  is_in_use,
  is_permitted,
  unless_in_use,
}
use Rattle.opc_machine.specs.Bootstrap.{with_rows_of, loses_master, mastered}
use Rattle.opc_machine.specs.Commands.{denial_fault}
use Rattle.opc_machine.specs.Inputs as input
use Rattle.opc_machine_laws.specs.Laws.{IsNamedBy}
use Rattle.opc_machine.specs.declared.operation.Operation.{Operation}
use Rattle.opc_machine.specs.declared.operation.Operation.TheVariants as operation
use Rattle.opc_machine.specs.Rights.{right_fault}
use Rattle.opc_machine.specs.Rulings.{acting, is_required, is_revoked, logon_denial}
use Rattle.opc_machine_laws.proofs.Plain.{IsPlain}

-- what is in the way of a change is neither about authority nor aborted
abbrev pub IfInTheWay : {A : Type 0} → Result A Fault → Type 0
IfInTheWay (Ok x) = Unit {0}
IfInTheWay (Err f) = IsPlain f

unless_none : (b : Bool) (name : List ℕ) (made : Result Policy Fault) → IfInTheWay made → IfInTheWay (unless b name made)
unless_none true name made none = tt
unless_none false name made none = none

needing_none : (b : Bool) (name : List ℕ) (made : Result Policy Fault) → IfInTheWay made → IfInTheWay (needing b name made)
needing_none true name made none = none
needing_none false name made none = tt

in_use_none : (b : Bool) (name : List ℕ) (made : Result Policy Fault) → IfInTheWay made → IfInTheWay (unless_in_use b name made)
in_use_none true name made none = tt
in_use_none false name made none = none

pub policy_none : (b : BoardRows) (o : Operation) (p : Policy) → IfInTheWay (policy_changed b o p)
policy_none b (operation.AddUser id special auditor digest restricted) p =
    unless_none (has_name p id) id (Ok (record p {
      users = with_user (record {
        id = id;
        special = special;
        auditor = auditor;
        revoked = false;
        digest = digest;
        restricted = restricted;
      }) p.users;
    })) tt
policy_none b (operation.AltUser id special auditor revoked digest restricted) p =
    needing_none (has_user p id) id (Ok (record p {
      users = with_user (record {
        id = id;
        special = special;
        auditor = auditor;
        revoked = revoked;
        digest = digest;
        restricted = restricted;
      }) p.users;
    })) tt
policy_none b (operation.DelUser id) p =
    needing_none (has_user p id) id (unless_in_use (is_in_use p b id) id
    (Ok (record p { users = without_user id p.users })))
    (in_use_none (is_in_use p b id) id (Ok (record p { users = without_user id p.users })) tt)
policy_none b (operation.AddGroup name) p =
    unless_none (has_name p name) name (Ok (record p { groups = with_group name p.groups })) tt
policy_none b (operation.Connect user group) p =
    needing_none (has_user p user) user (needing (has_group p group) group (unless (is_connected p user group) group (Ok (record p {
      connects = with_connect (record {
        user = user;
        group = group;
      }) p.connects;
    })))) (needing_none (has_group p group) group
    (unless (is_connected p user group) group
    (Ok (record p { connects = with_connect (record { user = user; group = group }) p.connects })))
    (unless_none (is_connected p user group) group
    (Ok (record p { connects = with_connect (record { user = user; group = group }) p.connects })) tt))
policy_none b (operation.Remove user group) p =
    needing_none (has_user p user) user (needing (has_group p group) group (needing (is_connected p user group) group (Ok (record p {
      connects = without_connect (record {
        user = user;
        group = group;
      }) p.connects;
    })))) (needing_none (has_group p group) group
    (needing (is_connected p user group) group
    (Ok (record p { connects = without_connect (record { user = user; group = group }) p.connects })))
    (needing_none (is_connected p user group) group
    (Ok (record p { connects = without_connect (record { user = user; group = group }) p.connects })) tt))
policy_none b (operation.RDefine class pattern owner uacc warning) p =
    unless_none (is_some (profile_of p.profiles class pattern)) pattern
    (needing (has_user p owner) owner
    (Ok (record p { profiles = with_definition (definition class pattern owner uacc warning) p.profiles })))
    (needing_none (has_user p owner) owner
    (Ok (record p { profiles = with_definition (definition class pattern owner uacc warning) p.profiles })) tt)
policy_none b (operation.RAlter class pattern owner uacc warning) p =
    needing_none (is_some (profile_of p.profiles class pattern)) pattern
    (needing (has_user p owner) owner
    (Ok (record p { profiles = with_definition (definition class pattern owner uacc warning) p.profiles })))
    (needing_none (has_user p owner) owner
    (Ok (record p { profiles = with_definition (definition class pattern owner uacc warning) p.profiles })) tt)
policy_none b (operation.RDelete class pattern) p =
    needing_none (is_some (profile_of p.profiles class pattern)) pattern (Ok (record p { profiles = without_profile class pattern p.profiles })) tt
policy_none b (operation.Permit class pattern id level when) p =
    needing_none (is_some (profile_of p.profiles class pattern)) pattern (needing (has_holder p id) id (Ok (record p {
      profiles = with_permission class pattern (record {
        id = id;
        when = when;
        level = level;
      }) p.profiles;
    }))) (needing_none (has_holder p id) id
    (Ok (record p {
      profiles = with_permission class pattern (record { id = id; when = when; level = level })
          p.profiles;
    })) tt)
policy_none b (operation.PermitDelete class pattern id when) p =
    needing_none (is_some (profile_of p.profiles class pattern)) pattern
    (needing (is_permitted p class pattern id when) id
    (Ok (record p { profiles = without_permission class pattern id when p.profiles })))
    (needing_none (is_permitted p class pattern id when) id
    (Ok (record p { profiles = without_permission class pattern id when p.profiles })) tt)
policy_none b (operation.ClassActive class active) p = tt
policy_none b (operation.DefineConsole name auth mode) p = tt

row_none : (row : Row) (p : Policy) → IfInTheWay (after_row row p)
row_none (rows.Class class active) p = tt
row_none (rows.Group name) p =
    unless_none (has_user p name) name (Ok (record p { groups = with_group name p.groups })) tt
row_none (rows.User user) p =
    unless_none (has_group p user.id) user.id (Ok (record p { users = with_user user p.users })) tt
row_none (rows.Connect user group) p =
    needing_none (has_user p user) user (needing (has_group p group) group (Ok (record p {
      connects = with_connect (record {
        user = user;
        group = group;
      }) p.connects;
    }))) (needing_none (has_group p group) group (Ok (record p { connects = with_connect (record { user = user; group = group }) p.connects })) tt)
row_none (rows.Console name auth mode) p = tt
row_none (rows.Profile class pattern uacc owner warning) p =
    needing_none (has_user p owner) owner (Ok (record p {
      profiles = with_definition (record {
        class = class;
        pattern = pattern;
        owner = owner;
        uacc = uacc;
        warning = warning;
        entries = [];
      }) p.profiles;
    })) tt
row_none (rows.Permit class pattern id level when) p =
    needing_none (is_some (profile_of p.profiles class pattern)) pattern (needing (has_holder p id) id (Ok (record p {
      profiles = with_permission class pattern (record {
        id = id;
        when = when;
        level = level;
      }) p.profiles;
    }))) (needing_none (has_holder p id) id
    (Ok (record p {
      profiles = with_permission class pattern (record { id = id; when = when; level = level })
          p.profiles;
    })) tt)

then_none : (r : Result Policy Fault) (next : Policy → Result Policy Fault) → IfInTheWay r
    → ((p : Policy) → IfInTheWay (next p)) → IfInTheWay (then_policy r next)
then_none (Ok p) next none later = later p
then_none (Err f) next none later = none

pub rows_none : (all : List Row) (p : Policy) → IfInTheWay (policy_after all p)
rows_none [] p = tt
rows_none (row ∷ more) p = then_none (after_row row p) (λ q. policy_after more q) (row_none row p) (λ q. rows_none more q)

pub with_rows_none : (s : State) (b : BoardRows) (r : Result Policy Fault) → IfInTheWay r → IfInTheWay (with_rows_of s b r)
with_rows_none s b (Ok p) none = go (loses_master s.board b)
  where
    go : (lost : Bool) → IfInTheWay (mastered lost (record s { policy = p; board = b }))
    go true = tt
    go false = tt
with_rows_none s b (Err f) none = none

pub right_plain : (o : Operation) → IsPlain (right_fault o)
right_plain (operation.RAlter class pattern owner uacc warning) = tt
right_plain (operation.RDelete class pattern) = tt
right_plain (operation.Permit class pattern id level when) = tt
right_plain (operation.PermitDelete class pattern id when) = tt
right_plain other = tt

-- the logon rule names itself
abbrev pub IsLogonRule : Option Rule → Type 0
IsLogonRule None = Unit {0}
IsLogonRule (Some why) = IsNamedBy (denial_fault why) why

pub logon_rule : (s : State) (c : ConsoleRow) → IsLogonRule (logon_denial s c)
logon_rule s c = go (is_required c.mode) (is_none c.user) (is_revoked (acting s c))
  where
    go : (required nobody revoked : Bool) → IsLogonRule (if required && nobody then Some rule.LogonRequired else (if revoked then Some rule.Revoked else None))
    go true true revoked = refl
    go true false true = refl
    go true false false = tt
    go false nobody true = refl
    go false nobody false = tt
