-- Each operation and each row keeps a policy whose users and groups are stored.
use Rattle.std.proofs.Common.{false, not, ◌&&◌, List, [], ◌∷◌, Result, Ok, Err}
use Rattle.std.specs.Option.{is_some}
use Rattle.std.specs.Str.{bytes_eq}
use Rattle.opc_names.specs.declared.class.Class.{Class}
use Rattle.opc_policy_members.specs.declared.connect.Connect.{Connect}
use Rattle.opc_terms.specs.declared.fault.Fault.{Fault}
use Rattle.opc_policy_members.specs.declared.policy.Policy.{Policy}
use Rattle.opc_policy_members.specs.declared.profile.Profile.{Profile}
use Rattle.opc_policy_members.specs.declared.row.Row.{Row}
use Rattle.opc_policy_members.specs.declared.row.Row.TheVariants as rows
use Rattle.opc_policy_members.specs.declared.user.User.{User}
use Rattle.opc_policy_members.specs.Members.{with_connect, with_group, with_user}
use Rattle.opc_policy_members.specs.Profiles.{is_of, profile_of, with_definition, with_permission}
use Rattle.opc_policy_members.specs.Taken.{after_row, has_group, has_holder, has_user, needing, unless, policy_after, then_policy}
use Rattle.opc_rows.proofs.Orders.{all_filter}
use Rattle.opc_board.specs.declared.board.BoardRows.{BoardRows}
use Rattle.opc_state.specs.Invariants.{IsConnectOfStored, IsPolicy, IsProfileOfStored}
use Rattle.opc_state.specs.Members.{without_connect, without_permission, without_profile, without_user}
use Rattle.opc_state.specs.Loads.{is_connected}
use Rattle.opc_machine.specs.Administration.{
  board_changed,
  definition,
  has_name,
  is_in_use,
  is_permitted,
  policy_changed,
  unless_in_use,
}
use Rattle.opc_machine.specs.declared.operation.Operation.{Operation}
use Rattle.opc_machine.specs.declared.operation.Operation.TheVariants as operation
use Rattle.opc_machine_invariants.proofs.Boards.{IsKeptBoard, defined_kept}
use Rattle.opc_machine_invariants.proofs.Extending.{
  or_left,
  or_right,
  none_named,
  Extends,
  extends_itself,
  extends_on,
  board_on,
}
use Rattle.opc_machine_invariants.proofs.Policies.{
  with_this,
  user_extends,
  user_kept,
  stored_apart,
  group_extends,
  group_kept,
  connect_kept,
  with_profiles_kept,
  defined_stored,
  permission_kept,
  less_permission_kept,
  gone_kept,
  gone_board,
  IfMade,
  unless_made,
  needing_made,
  in_use_made,
}

-- Each operation keeps policy and board.
pub policy_kept : (b : BoardRows) (o : Operation) (p : Policy) → IsPolicy p → IsKeptBoard p b
    → IfMade (λ q. IsPolicy q × IsKeptBoard q (board_changed o b)) (policy_changed b o p)
policy_kept b (operation.AddUser id special auditor digest restricted) p invariants kept =
    unless_made (λ q. IsPolicy q × IsKeptBoard q b) (has_name p id) id
    (Ok (record p {
      users = with_user
          (record {
            id = id;
            special = special;
            auditor = auditor;
            revoked = false;
            digest = digest;
            restricted = restricted;
          }) p.users;
    })) (λ h0. (
      user_kept p (record {
        id = id;
        special = special;
        auditor = auditor;
        revoked = false;
        digest = digest;
        restricted = restricted;
      }) invariants (none_named id p.groups (or_right (has_user p id) (has_group p id) h0)),
      board_on p (with_this p (record {
        id = id;
        special = special;
        auditor = auditor;
        revoked = false;
        digest = digest;
        restricted = restricted;
      })) (user_extends p
          (record {
            id = id;
            special = special;
            auditor = auditor;
            revoked = false;
            digest = digest;
            restricted = restricted;
          })) b kept,
    ))
policy_kept b (operation.AltUser id special auditor revoked digest restricted) p invariants kept =
    needing_made (λ q. IsPolicy q × IsKeptBoard q b) (has_user p id) id
    (Ok (record p {
      users = with_user
          (record {
            id = id;
            special = special;
            auditor = auditor;
            revoked = revoked;
            digest = digest;
            restricted = restricted;
          }) p.users;
    })) (λ h0. (
      user_kept p (record {
        id = id;
        special = special;
        auditor = auditor;
        revoked = revoked;
        digest = digest;
        restricted = restricted;
      }) invariants (stored_apart p id h0 invariants.apart),
      board_on p (with_this p (record {
        id = id;
        special = special;
        auditor = auditor;
        revoked = revoked;
        digest = digest;
        restricted = restricted;
      }))
          (user_extends p (record {
            id = id;
            special = special;
            auditor = auditor;
            revoked = revoked;
            digest = digest;
            restricted = restricted;
          })) b kept,
    ))
policy_kept b (operation.DelUser id) p invariants kept =
    needing_made (λ q. IsPolicy q × IsKeptBoard q b) (has_user p id) id
    (unless_in_use (is_in_use p b id) id (Ok (record p { users = without_user id p.users })))
    (λ h0. in_use_made (λ q. IsPolicy q × IsKeptBoard q b) (is_in_use p b id) id
    (Ok (record p { users = without_user id p.users }))
    (λ h1. (gone_kept p b id h1 invariants, gone_board p b id h1 kept)))
policy_kept b (operation.AddGroup name) p invariants kept =
    unless_made (λ q. IsPolicy q × IsKeptBoard q b) (has_name p name) name
    (Ok (record p { groups = with_group name p.groups }))
    (λ h0. (group_kept p name invariants (or_left (has_user p name) (has_group p name) h0), kept))
policy_kept b (operation.Connect user group) p invariants kept =
    needing_made (λ q. IsPolicy q × IsKeptBoard q b) (has_user p user) user
    (needing (has_group p group) group
    (unless (is_connected p user group) group
    (Ok (record p { connects = with_connect (record { user = user; group = group }) p.connects }))))
    (λ h0. needing_made (λ q. IsPolicy q × IsKeptBoard q b) (has_group p group) group
    (unless (is_connected p user group) group
    (Ok (record p { connects = with_connect (record { user = user; group = group }) p.connects })))
    (λ h1. unless_made (λ q. IsPolicy q × IsKeptBoard q b) (is_connected p user group) group
    (Ok (record p { connects = with_connect (record { user = user; group = group }) p.connects })) (λ h2. (
      connect_kept p (record {
        user = user;
        group = group;
      }) invariants (h0, h1),
      kept,
    ))))
policy_kept b (operation.Remove user group) p invariants kept =
    needing_made (λ q. IsPolicy q × IsKeptBoard q b) (has_user p user) user
    (needing (has_group p group) group
    (needing (is_connected p user group) group
    (Ok (record p { connects = without_connect (record { user = user; group = group }) p.connects }))))
    (λ h0. needing_made (λ q. IsPolicy q × IsKeptBoard q b) (has_group p group) group
    (needing (is_connected p user group) group
    (Ok (record p { connects = without_connect (record { user = user; group = group }) p.connects })))
    (λ h1. needing_made (λ q. IsPolicy q × IsKeptBoard q b) (is_connected p user group) group
    (Ok (record p { connects = without_connect (record { user = user; group = group }) p.connects })) (λ h2. (
      record {
        apart = invariants.apart;
        connects = all_filter (IsConnectOfStored p) (λ (c : Connect). not (bytes_eq c.user user && bytes_eq c.group group)) p.connects invariants.connects;
        profiles = invariants.profiles;
      },
      kept,
    ))))
policy_kept b (operation.RDefine class pattern owner uacc warning) p invariants kept =
    unless_made (λ q. IsPolicy q × IsKeptBoard q b) (is_some (profile_of p.profiles class pattern)) pattern
    (needing (has_user p owner) owner
    (Ok (record p { profiles = with_definition (definition class pattern owner uacc warning) p.profiles })))
    (λ h0. needing_made (λ q. IsPolicy q × IsKeptBoard q b) (has_user p owner) owner
    (Ok (record p { profiles = with_definition (definition class pattern owner uacc warning) p.profiles }))
    (λ h1. (defined_stored p (definition class pattern owner uacc warning) invariants h1 tt, kept)))
policy_kept b (operation.RAlter class pattern owner uacc warning) p invariants kept =
    needing_made (λ q. IsPolicy q × IsKeptBoard q b) (is_some (profile_of p.profiles class pattern)) pattern
    (needing (has_user p owner) owner
    (Ok (record p { profiles = with_definition (definition class pattern owner uacc warning) p.profiles })))
    (λ h0. needing_made (λ q. IsPolicy q × IsKeptBoard q b) (has_user p owner) owner
    (Ok (record p { profiles = with_definition (definition class pattern owner uacc warning) p.profiles }))
    (λ h1. (defined_stored p (definition class pattern owner uacc warning) invariants h1 tt, kept)))
policy_kept b (operation.RDelete class pattern) p invariants kept =
    needing_made (λ q. IsPolicy q × IsKeptBoard q b) (is_some (profile_of p.profiles class pattern)) pattern
    (Ok (record p { profiles = without_profile class pattern p.profiles }))
    (λ h0. (
      with_profiles_kept p (without_profile class pattern p.profiles) invariants
          (all_filter (IsProfileOfStored p) (λ (q : Profile). not (is_of class pattern q)) p.profiles
          invariants.profiles),
      kept,
    ))
policy_kept b (operation.Permit class pattern id level when) p invariants kept =
    needing_made (λ q. IsPolicy q × IsKeptBoard q b) (is_some (profile_of p.profiles class pattern)) pattern
    (needing (has_holder p id) id (Ok
    (record p {
      profiles = with_permission class pattern (record { id = id; when = when; level = level }) p.profiles;
    }))) (λ h0. needing_made (λ q. IsPolicy q × IsKeptBoard q b) (has_holder p id) id
    (Ok (record p {
      profiles = with_permission class pattern (record { id = id; when = when; level = level })
          p.profiles;
    })) (λ h1. (
      permission_kept p class pattern (record {
        id = id;
        when = when;
        level = level;
      }) invariants h1,
      kept,
    )))
policy_kept b (operation.PermitDelete class pattern id when) p invariants kept =
    needing_made (λ q. IsPolicy q × IsKeptBoard q b) (is_some (profile_of p.profiles class pattern)) pattern
    (needing (is_permitted p class pattern id when) id
    (Ok (record p { profiles = without_permission class pattern id when p.profiles })))
    (λ h0. needing_made (λ q. IsPolicy q × IsKeptBoard q b) (is_permitted p class pattern id when) id
    (Ok (record p { profiles = without_permission class pattern id when p.profiles }))
    (λ h1. (less_permission_kept p class pattern id when invariants, kept)))
policy_kept b (operation.ClassActive class active) p invariants kept = (
  record {
    apart = invariants.apart;
    connects = invariants.connects;
    profiles = invariants.profiles;
  },
  kept,
)
policy_kept b (operation.DefineConsole name auth mode) p invariants kept = (invariants, defined_kept p name auth mode b kept)

-- Each row keeps a policy, and takes no user or group from it.
row_kept : (row : Row) (p : Policy) → IsPolicy p → IfMade (λ q. IsPolicy q × Extends p q) (after_row row p)
row_kept (rows.Class class active) p invariants = (
  record {
    apart = invariants.apart;
    connects = invariants.connects;
    profiles = invariants.profiles;
  },
  record { users = λ id h. h; groups = λ name h. h },
)
row_kept (rows.Group name) p invariants =
    unless_made (λ q. IsPolicy q × Extends p q) (has_user p name) name
    (Ok (record p { groups = with_group name p.groups }))
    (λ h0. (group_kept p name invariants h0, group_extends p name))
row_kept (rows.User user) p invariants =
    unless_made (λ q. IsPolicy q × Extends p q) (has_group p user.id) user.id
    (Ok (record p { users = with_user user p.users }))
    (λ h0. (user_kept p user invariants (none_named user.id p.groups h0), user_extends p user))
row_kept (rows.Connect user group) p invariants =
    needing_made (λ q. IsPolicy q × Extends p q) (has_user p user) user
    (needing (has_group p group) group
    (Ok (record p { connects = with_connect (record { user = user; group = group }) p.connects })))
    (λ h0. needing_made (λ q. IsPolicy q × Extends p q) (has_group p group) group
    (Ok (record p { connects = with_connect (record { user = user; group = group }) p.connects })) (λ h1. (
      connect_kept p (record { user = user; group = group }) invariants (h0, h1),
      record {
        users = λ id h. h;
        groups = λ name h. h;
      },
    )))
row_kept (rows.Console name auth mode) p invariants = (invariants, extends_itself p)
row_kept (rows.Profile class pattern uacc owner warning) p invariants =
    needing_made (λ q. IsPolicy q × Extends p q) (has_user p owner) owner
    (Ok (record p {
      profiles = with_definition
          (record { class = class; pattern = pattern; owner = owner; uacc = uacc; warning = warning; entries = [] })
          p.profiles;
    })) (λ h0. (
      defined_stored p (record { class = class; pattern = pattern; owner = owner; uacc = uacc; warning = warning; entries = [] }) invariants h0 tt,
      record {
        users = λ id h. h;
        groups = λ name h. h;
      },
    ))
row_kept (rows.Permit class pattern id level when) p invariants =
    needing_made (λ q. IsPolicy q × Extends p q) (is_some (profile_of p.profiles class pattern)) pattern
    (needing (has_holder p id) id (Ok
    (record p {
      profiles = with_permission class pattern (record { id = id; when = when; level = level }) p.profiles;
    }))) (λ h0. needing_made (λ q. IsPolicy q × Extends p q) (has_holder p id) id
    (Ok (record p {
      profiles = with_permission class pattern (record { id = id; when = when; level = level })
          p.profiles;
    })) (λ h1. (
      permission_kept p class pattern (record { id = id; when = when; level = level }) invariants h1,
      record {
        users = λ id h. h;
        groups = λ name h. h;
      },
    )))

-- and so do rows one after another
pub rows_kept : (all : List Row) (p : Policy) → IsPolicy p → IfMade (λ q. IsPolicy q × Extends p q) (policy_after all p)
rows_kept [] p invariants = (invariants, extends_itself p)
rows_kept (row ∷ more) p invariants = go (after_row row p) (row_kept row p invariants) (λ q kept. rows_kept more q kept)
  where
    further : (q : Policy) → Extends p q → (r : Result Policy Fault) → IfMade (λ t. IsPolicy t × Extends q t) r → IfMade (λ t. IsPolicy t × Extends p t) r
    further q e (Ok t) h = (h.0, extends_on p q t e h.1)
    further q e (Err f) h = tt

    go : (r : Result Policy Fault) → IfMade (λ q. IsPolicy q × Extends p q) r
        → ((q : Policy) → IsPolicy q → IfMade (λ t. IsPolicy t × Extends q t) (policy_after more q))
        → IfMade (λ q. IsPolicy q × Extends p q) (then_policy r (λ q. policy_after more q))
    go (Ok q) h later = further q h.1 (policy_after more q) (later q h.0)
    go (Err f) h later = tt
