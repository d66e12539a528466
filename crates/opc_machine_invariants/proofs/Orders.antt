-- What an operation or a row makes of a policy is in the order of the keys, if the policy before was.
use Rattle.std.proofs.Common.{◌≡◌, ℕ, Bool, true, false, not, ◌&&◌, List, [], ◌∷◌, Option, Some, None, Result, Ok, Err, is_some, refl, ap, subst, ◌∙◌, rules}
use Rattle.std.specs.BTreeSet.{insert_key, replace_key}
use Rattle.std.specs.Cmp.{IsTotalOrder}
use Rattle.std.specs.List.{AllByRecursion}
use Rattle.std.specs.Option.{option_map_or}
use Rattle.std.specs.Ordering.{is_lt, match_ordering, nat_cmp, ordering_reverse}
use Rattle.std.specs.Str.{bytes_eq}
use Rattle.std.specs.declared.cmp.Ordering.{Ordering}
use Rattle.std.specs.declared.cmp.Ordering.TheVariants.{Less, Equal, Greater}
use Rattle.std.proofs.lemmas.Cmp.{nat_cmp_total, nat_list_cmp_total, on_total, then_total}
use Rattle.opc_names.specs.declared.class.Class.{Class}
use Rattle.opc_names.specs.declared.class.Class.TheVariants.{Console, Opercmds}
use Rattle.opc_names.specs.Order.{sort_key}
use Rattle.opc_policy_members.specs.declared.connect.Connect.{Connect}
use Rattle.opc_policy_members.specs.declared.entry.Entry.{Entry}
use Rattle.opc_terms.specs.declared.fault.Fault.{Fault}
use Rattle.opc_policy_members.specs.declared.policy.Policy.{Policy}
use Rattle.opc_policy_members.specs.declared.profile.Profile.{Profile}
use Rattle.opc_policy_members.specs.declared.row.Row.{Row}
use Rattle.opc_policy_members.specs.declared.row.Row.TheVariants as rows
use Rattle.opc_policy_members.specs.declared.user.User.{User}
use Rattle.opc_policy_members.specs.Access.{entry_cmp, is_for, with_entry}
use Rattle.opc_policy_members.specs.Members.{connect_cmp, name_cmp, user_cmp, with_connect, with_group, with_user}
use Rattle.opc_policy_members.specs.Profiles.{class_cmp, is_of, profile_cmp, profile_of, with_definition, with_permission}
use Rattle.opc_policy_members.specs.Taken.{after_row, has_group, has_holder, has_user, policy_after, then_policy}
use Rattle.opc_policy_members.proofs.Placed.{order}
use Rattle.opc_rows.specs.Ordered.{Ascends}
use Rattle.opc_rows.proofs.Orders.{all_filter, all_found, ascends_filter}
use Rattle.opc_board.specs.declared.board.BoardRows.{BoardRows}
use Rattle.opc_state.specs.Loads.{is_connected}
use Rattle.opc_state.specs.Members.{without_connect, without_entry, without_permission, without_profile, without_user}
use Rattle.opc_machine.specs.Administration.{definition, has_name, is_in_use, is_permitted, policy_changed}
use Rattle.opc_machine.specs.declared.operation.Operation.{Operation}
use Rattle.opc_machine.specs.declared.operation.Operation.TheVariants as operation
use Rattle.opc_machine_invariants.specs.KeptInvariants.{IsInKeyOrder}
use Rattle.opc_machine_invariants.proofs.Policies.{IfMade, in_use_made, needing_made, unless_made}
use Rattle.opc_machine_invariants.proofs.Extending.{all_replaced}

-- lists with one more

is_less : (o : Ordering) → is_lt o ≡ true → o ≡ Less
is_less Less h = refl
is_less Equal h = absurd (search (rules, h))
is_less Greater h = absurd (search (rules, h))

module _ {X : Type 0} (cmp : X → X → Ordering) (total : IsTotalOrder cmp) where
  abbrev before : X → X → Bool
  before x y = is_lt (cmp x y)

  above : (k x : X) (xs : List X) → cmp k x ≡ Less → AllByRecursion (λ y. before x y ≡ true) xs → AllByRecursion (λ y. before k y ≡ true) xs
  above k x [] less all = tt
  above k x (y ∷ xs) less all = (ap is_lt (total.trans k x y less (is_less (cmp x y) all.0)), above k x xs less all.1)

  level : (k x : X) (xs : List X) → cmp k x ≡ Equal → AllByRecursion (λ y. before x y ≡ true) xs → AllByRecursion (λ y. before k y ≡ true) xs
  level k x [] tie all = tt
  level k x (y ∷ xs) tie all = (ap is_lt (total.congr k x y tie) ∙ all.0, level k x xs tie all.1)

  below : (k x : X) → cmp k x ≡ Greater → before x k ≡ true
  below k x more = ap is_lt (total.antisymm x k ∙ ap ordering_reverse more)

  replaced : (k : X) (xs : List X) → Ascends before xs → Ascends before (replace_key cmp xs k)
  replaced k [] up = (tt, tt)
  replaced k (x ∷ xs) up = go (cmp k x) refl (replaced k xs up.1)
    where
      go : (o : Ordering) → cmp k x ≡ o → Ascends before (replace_key cmp xs k)
          → Ascends before (match_ordering o (k ∷ x ∷ xs) (k ∷ xs) (x ∷ replace_key cmp xs k))
      go Less e later = ((ap is_lt e, above k x xs e up.0), up)
      go Equal e later = (level k x xs e up.0, up.1)
      go Greater e later = (all_replaced (λ y. before x y ≡ true) cmp k xs (below k x e) up.0, later)

  all_inserted : (P : X → Type 0) (k : X) (xs : List X) → P k → AllByRecursion P xs → AllByRecursion P (insert_key cmp xs k)
  all_inserted P k [] here all = (here, tt)
  all_inserted P k (x ∷ xs) here all = go (cmp k x) (all_inserted P k xs here all.1)
    where
      go : (o : Ordering) → AllByRecursion P (insert_key cmp xs k) → AllByRecursion P (match_ordering o (k ∷ x ∷ xs) (x ∷ xs) (x ∷ insert_key cmp xs k))
      go Less later = (here, (all.0, all.1))
      go Equal later = all
      go Greater later = (all.0, later)

  inserted : (k : X) (xs : List X) → Ascends before xs → Ascends before (insert_key cmp xs k)
  inserted k [] up = (tt, tt)
  inserted k (x ∷ xs) up = go (cmp k x) refl (inserted k xs up.1)
    where
      go : (o : Ordering) → cmp k x ≡ o → Ascends before (insert_key cmp xs k)
          → Ascends before (match_ordering o (k ∷ x ∷ xs) (x ∷ xs) (x ∷ insert_key cmp xs k))
      go Less e later = ((ap is_lt e, above k x xs e up.0), up)
      go Equal e later = up
      go Greater e later = (all_inserted (λ y. before x y ≡ true) k xs (below k x e) up.0, later)

-- the orders of the keys

user_total : IsTotalOrder user_cmp
user_total = on_total (λ (u : User). u.id) nat_list_cmp_total

connect_total : IsTotalOrder connect_cmp
connect_total = then_total (on_total (λ (c : Connect). c.user) nat_list_cmp_total) (on_total (λ (c : Connect). c.group) nat_list_cmp_total)

abbrev class_rank : Class → ℕ
class_rank Console = 0
class_rank Opercmds = 1

by_rank : (c d : Class) → nat_cmp (class_rank c) (class_rank d) ≡ class_cmp c d
by_rank Console Console = refl
by_rank Console Opercmds = refl
by_rank Opercmds Console = refl
by_rank Opercmds Opercmds = refl

class_total : IsTotalOrder class_cmp
class_total = subst IsTotalOrder (λ i c d. by_rank c d i) (on_total class_rank nat_cmp_total)

profile_total : IsTotalOrder profile_cmp
profile_total = then_total (on_total (λ (p : Profile). p.class) class_total) (on_total (λ (p : Profile). sort_key p.pattern) nat_list_cmp_total)

-- each member of a policy

module _ (p : Policy) (o : IsInKeyOrder p) where
  with_users : (u : User) → IsInKeyOrder (record p { users = with_user u p.users })
  with_users u = record {
    users = replaced user_cmp user_total u p.users o.users;
    groups = o.groups;
    connects = o.connects;
    profiles = o.profiles;
    entries = o.entries;
  }

  less_users : (id : List ℕ) → IsInKeyOrder (record p { users = without_user id p.users })
  less_users id = record {
    users = ascends_filter _ (λ (u : User). not (bytes_eq u.id id)) p.users o.users;
    groups = o.groups;
    connects = o.connects;
    profiles = o.profiles;
    entries = o.entries;
  }

  with_groups : (name : List ℕ) → IsInKeyOrder (record p { groups = with_group name p.groups })
  with_groups name = record {
    users = o.users;
    groups = inserted name_cmp nat_list_cmp_total name p.groups o.groups;
    connects = o.connects;
    profiles = o.profiles;
    entries = o.entries;
  }

  with_connects : (c : Connect) → IsInKeyOrder (record p { connects = with_connect c p.connects })
  with_connects c = record {
    users = o.users;
    groups = o.groups;
    connects = inserted connect_cmp connect_total c p.connects o.connects;
    profiles = o.profiles;
    entries = o.entries;
  }

  less_connects : (c : Connect) → IsInKeyOrder (record p { connects = without_connect c p.connects })
  less_connects c = record {
    users = o.users;
    groups = o.groups;
    connects = ascends_filter _ (λ (d : Connect). not (bytes_eq d.user c.user && bytes_eq d.group c.group)) p.connects o.connects;
    profiles = o.profiles;
    entries = o.entries;
  }

  abbrev IsListed : Profile → Type 0
  IsListed q = Ascends (λ (e f : Entry). is_lt (entry_cmp e f)) q.entries

  with_profile : (q : Profile) → IsListed q → IsInKeyOrder (record p { profiles = replace_key profile_cmp p.profiles q })
  with_profile q listed = record {
    users = o.users;
    groups = o.groups;
    connects = o.connects;
    profiles = replaced profile_cmp profile_total q p.profiles o.profiles;
    entries = all_replaced IsListed profile_cmp q p.profiles listed o.entries;
  }

  less_profiles : (class : Class) (pattern : List ℕ) → IsInKeyOrder (record p { profiles = without_profile class pattern p.profiles })
  less_profiles class pattern = record {
    users = o.users;
    groups = o.groups;
    connects = o.connects;
    profiles = ascends_filter _ (λ (q : Profile). not (is_of class pattern q)) p.profiles o.profiles;
    entries = all_filter IsListed (λ (q : Profile). not (is_of class pattern q)) p.profiles o.entries;
  }

  listed_at : (class : Class) (pattern : List ℕ) (q : Profile) → profile_of p.profiles class pattern ≡ Some q → IsListed q
  listed_at class pattern q at = all_found IsListed (is_of class pattern) q p.profiles at o.entries

  with_definitions : (d : Profile) → IsListed d → IsInKeyOrder (record p { profiles = with_definition d p.profiles })
  with_definitions d listed = with_profile
      (record d {
        entries = option_map_or (λ (q : Profile). q.entries) (profile_of p.profiles d.class d.pattern)
            d.entries;
      }) (go (profile_of p.profiles d.class d.pattern) refl)
    where
      go : (found : Option Profile) → profile_of p.profiles d.class d.pattern ≡ found
          → Ascends (λ (e f : Entry). is_lt (entry_cmp e f))
          (option_map_or (λ (q : Profile). q.entries) found d.entries)
      go None at = listed
      go (Some q) at = listed_at d.class d.pattern q at

  with_permissions : (class : Class) (pattern : List ℕ) (e : Entry) → IsInKeyOrder (record p { profiles = with_permission class pattern e p.profiles })
  with_permissions class pattern e = go (profile_of p.profiles class pattern) refl
    where
      go : (found : Option Profile) → profile_of p.profiles class pattern ≡ found
          → IsInKeyOrder (record p {
            profiles = option_map_or
                (λ (q : Profile). replace_key profile_cmp p.profiles (record q { entries = with_entry e q.entries }))
                found p.profiles;
          })
      go None at = record { users = o.users; groups = o.groups; connects = o.connects; profiles = o.profiles; entries = o.entries }
      go (Some q) at = with_profile (record q { entries = with_entry e q.entries }) (replaced entry_cmp order e q.entries (listed_at class pattern q at))

  less_permissions : (class : Class) (pattern id : List ℕ) (when : Option (List ℕ))
      → IsInKeyOrder (record p { profiles = without_permission class pattern id when p.profiles })
  less_permissions class pattern id when = go (profile_of p.profiles class pattern) refl
    where
      go : (found : Option Profile) → profile_of p.profiles class pattern ≡ found
          → IsInKeyOrder (record p {
            profiles = option_map_or
                (λ (q : Profile). replace_key profile_cmp p.profiles
                (record q { entries = without_entry id when q.entries })) found p.profiles;
          })
      go None at = record { users = o.users; groups = o.groups; connects = o.connects; profiles = o.profiles; entries = o.entries }
      go (Some q) at = with_profile (record q { entries = without_entry id when q.entries })
          (ascends_filter _ (λ (e : Entry). not (is_for when id e)) q.entries (listed_at class pattern q at))

-- Each operation keeps the order,
pub policy_ordered : (b : BoardRows) (op : Operation) (p : Policy) → IsInKeyOrder p → IfMade IsInKeyOrder (policy_changed b op p)
policy_ordered b (operation.AddUser id special auditor digest restricted) p o = unless_made IsInKeyOrder (has_name p id) id _ (λ _. with_users p o (record {
  id = id;
  special = special;
  auditor = auditor;
  revoked = false;
  digest = digest;
  restricted = restricted;
}))
policy_ordered b (operation.AltUser id special auditor revoked digest restricted) p o =
    needing_made IsInKeyOrder (has_user p id) id _ (λ _. with_users p o (record {
      id = id;
      special = special;
      auditor = auditor;
      revoked = revoked;
      digest = digest;
      restricted = restricted;
    }))
policy_ordered b (operation.DelUser id) p o =
    needing_made IsInKeyOrder (has_user p id) id _
    (λ _. in_use_made IsInKeyOrder (is_in_use p b id) id _ (λ _. less_users p o id))
policy_ordered b (operation.AddGroup name) p o = unless_made IsInKeyOrder (has_name p name) name _ (λ _. with_groups p o name)
policy_ordered b (operation.Connect user group) p o =
    needing_made IsInKeyOrder (has_user p user) user _
    (λ _. needing_made IsInKeyOrder (has_group p group) group _
    (λ _. unless_made IsInKeyOrder (is_connected p user group) group _ (λ _. with_connects p o (record {
      user = user;
      group = group;
    }))))
policy_ordered b (operation.Remove user group) p o =
    needing_made IsInKeyOrder (has_user p user) user _
    (λ _. needing_made IsInKeyOrder (has_group p group) group _
    (λ _. needing_made IsInKeyOrder (is_connected p user group) group _ (λ _. less_connects p o (record {
      user = user;
      group = group;
    }))))
policy_ordered b (operation.RDefine class pattern owner uacc warning) p o =
    unless_made IsInKeyOrder (is_some (profile_of p.profiles class pattern)) pattern _
    (λ _. needing_made IsInKeyOrder (has_user p owner) owner _
    (λ _. with_definitions p o (definition class pattern owner uacc warning) tt))
policy_ordered b (operation.RAlter class pattern owner uacc warning) p o =
    needing_made IsInKeyOrder (is_some (profile_of p.profiles class pattern)) pattern _
    (λ _. needing_made IsInKeyOrder (has_user p owner) owner _
    (λ _. with_definitions p o (definition class pattern owner uacc warning) tt))
policy_ordered b (operation.RDelete class pattern) p o =
    needing_made IsInKeyOrder (is_some (profile_of p.profiles class pattern)) pattern _
    (λ _. less_profiles p o class pattern)
policy_ordered b (operation.Permit class pattern id level when) p o =
    needing_made IsInKeyOrder (is_some (profile_of p.profiles class pattern)) pattern _
    (λ _. needing_made IsInKeyOrder (has_holder p id) id _ (λ _. with_permissions p o class pattern (record {
      id = id;
      when = when;
      level = level;
    })))
policy_ordered b (operation.PermitDelete class pattern id when) p o =
    needing_made IsInKeyOrder (is_some (profile_of p.profiles class pattern)) pattern _
    (λ _. needing_made IsInKeyOrder (is_permitted p class pattern id when) id _
    (λ _. less_permissions p o class pattern id when))
policy_ordered b (operation.ClassActive class active) p o = record {
  users = o.users;
  groups = o.groups;
  connects = o.connects;
  profiles = o.profiles;
  entries = o.entries;
}
policy_ordered b (operation.DefineConsole name auth mode) p o = o

-- so does each row,
row_ordered : (row : Row) (p : Policy) → IsInKeyOrder p → IfMade IsInKeyOrder (after_row row p)
row_ordered (rows.Class class active) p o = record { users = o.users; groups = o.groups; connects = o.connects; profiles = o.profiles; entries = o.entries }
row_ordered (rows.Group name) p o = unless_made IsInKeyOrder (has_user p name) name _ (λ _. with_groups p o name)
row_ordered (rows.User user) p o = unless_made IsInKeyOrder (has_group p user.id) user.id _ (λ _. with_users p o user)
row_ordered (rows.Connect user group) p o =
    needing_made IsInKeyOrder (has_user p user) user _
    (λ _. needing_made IsInKeyOrder (has_group p group) group _ (λ _. with_connects p o (record {
      user = user;
      group = group;
    })))
row_ordered (rows.Console name auth mode) p o = o
row_ordered (rows.Profile class pattern uacc owner warning) p o =
    needing_made IsInKeyOrder (has_user p owner) owner _ (λ _. with_definitions p o (record {
      class = class;
      pattern = pattern;
      owner = owner;
      uacc = uacc;
      warning = warning;
      entries = [];
    }) tt)
row_ordered (rows.Permit class pattern id level when) p o =
    needing_made IsInKeyOrder (is_some (profile_of p.profiles class pattern)) pattern _
    (λ _. needing_made IsInKeyOrder (has_holder p id) id _ (λ _. with_permissions p o class pattern (record {
      id = id;
      when = when;
      level = level;
    })))

-- and so do rows one after another
pub rows_ordered : (all : List Row) (p : Policy) → IsInKeyOrder p → IfMade IsInKeyOrder (policy_after all p)
rows_ordered [] p o = o
rows_ordered (row ∷ more) p o = go (after_row row p) (row_ordered row p o) (λ q h. rows_ordered more q h)
  where
    go : (r : Result Policy Fault) → IfMade IsInKeyOrder r
        → ((q : Policy) → IsInKeyOrder q → IfMade IsInKeyOrder (policy_after more q))
        → IfMade IsInKeyOrder (then_policy r (λ q. policy_after more q))
    go (Ok q) h later = later q h
    go (Err f) h later = tt
