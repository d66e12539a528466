-- A policy that results from an operation or a row names users and groups that it has, if the one before did.
use Rattle.std.proofs.Common.{
  ◌≡◌,
  ℕ,
  Bool,
  true,
  false,
  not,
  ◌||◌,
  List,
  Option,
  Some,
  None,
  Result,
  Ok,
  Err,
  refl,
  sym,
  ap,
  ◌∙◌,
  codes,
  rules,
  IfSome,
}
use Rattle.std.specs.BTreeSet.{replace_key}
use Rattle.std.specs.List.{AllByRecursion, list_any}
use Rattle.std.specs.Option.{option_map_or}
use Rattle.std.specs.Str.{bytes_eq}
use Rattle.opc_names.specs.declared.class.Class.{Class}
use Rattle.opc_policy_members.specs.declared.connect.Connect.{Connect}
use Rattle.opc_policy_members.specs.declared.entry.Entry.{Entry}
use Rattle.opc_terms.specs.declared.fault.Fault.{Fault}
use Rattle.opc_policy_members.specs.declared.policy.Policy.{Policy}
use Rattle.opc_policy_members.specs.declared.profile.Profile.{Profile}
use Rattle.opc_policy_members.specs.declared.row.Row.TheVariants as rows
use Rattle.opc_policy_members.specs.declared.user.User.{User}
use Rattle.opc_policy_members.specs.Access.{entry_cmp, is_for, with_entry}
use Rattle.opc_policy_members.specs.Members.{connect_cmp, name_cmp, user_cmp, with_connect, with_group, with_user}
use Rattle.opc_policy_members.specs.Profiles.{is_of, profile_cmp, profile_of, with_definition, with_permission}
use Rattle.opc_policy_members.specs.Taken.{has_group, has_user, needing, unless}
use Rattle.opc_rows.proofs.Orders.{all_filter, all_found, all_weaker, find_filter}
use Rattle.opc_board.specs.declared.board.BoardRows.{BoardRows}
use Rattle.opc_board.specs.declared.rows.ConsoleRow.{ConsoleRow}
use Rattle.opc_board.specs.Replies.{is_on}
use Rattle.opc_board.specs.Units.{is_holder}
use Rattle.opc_state.specs.Invariants.{
  IsConnectOfStored,
  IsConsoleOfStored,
  IsEntryOfStored,
  IsPolicy,
  IsProfileOfStored,
}
use Rattle.opc_state.specs.Members.{without_entry, without_permission, without_user}
use Rattle.opc_state.specs.Loads.{has_entry}
use Rattle.opc_machine.specs.Administration.{is_in_use, unless_in_use}
use Rattle.opc_machine.specs.declared.operation.Operation.TheVariants as operation
use Rattle.opc_machine_invariants.proofs.Boards.{IsKeptBoard}
use Rattle.opc_machine_invariants.proofs.Extending.{
  all_inserted,
  all_replaced,
  all_both,
  or_true,
  or_left,
  or_right,
  some_replaced,
  any_inserted,
  fewer_found,
  all_unless,
  same_name,
  tied_names,
  either_on,
  Extends,
  connects_on,
  profiles_on,
}

-- users

abbrev pub with_this : Policy → User → Policy
with_this p u = record p { users = with_user u p.users }

user_found : (p : Policy) (u : User) (id : List ℕ) → has_user (with_this p u) id ≡ (bytes_eq id u.id || has_user p id)
user_found p u id = some_replaced user_cmp (λ (v : User). bytes_eq id v.id) u p.users (λ v same. ap (bytes_eq id) (sym (tied_names u.id v.id same)))

pub user_extends : (p : Policy) (u : User) → Extends p (with_this p u)
user_extends p u = record { users = λ id h. user_found p u id ∙ ap (λ b. bytes_eq id u.id || b) h ∙ or_true (bytes_eq id u.id); groups = λ name h. h }

pub user_kept : (p : Policy) (u : User) → IsPolicy p → AllByRecursion (λ (g : List ℕ). bytes_eq g u.id ≡ false) p.groups → IsPolicy (with_this p u)
user_kept p u invariants others = record {
  apart = all_weaker (λ (g : List ℕ). (has_user p g ≡ false) × (bytes_eq g u.id ≡ false))
      (λ (g : List ℕ). has_user (with_this p u) g ≡ false)
      (λ g h. user_found p u g ∙ ap (λ b. b || has_user p g) h.1 ∙ h.0) p.groups
      (all_both (λ (g : List ℕ). has_user p g ≡ false) (λ (g : List ℕ). bytes_eq g u.id ≡ false) p.groups invariants.apart others);
  connects = connects_on p (with_this p u) (user_extends p u) p.connects invariants.connects;
  profiles = profiles_on p (with_this p u) (user_extends p u) p.profiles invariants.profiles;
}

-- a stored user has no group's name
pub stored_apart : (p : Policy) (id : List ℕ) → has_user p id ≡ true
    → AllByRecursion (λ (g : List ℕ). has_user p g ≡ false) p.groups
    → AllByRecursion (λ (g : List ℕ). bytes_eq g id ≡ false) p.groups
stored_apart p id stored apart = all_weaker (λ (g : List ℕ). has_user p g ≡ false)
    (λ (g : List ℕ). bytes_eq g id ≡ false) (λ g none. go g none (bytes_eq g id) refl) p.groups apart
  where
    go : (g : List ℕ) → has_user p g ≡ false → (b : Bool) → bytes_eq g id ≡ b → b ≡ false
    go g none false so = refl
    go g none true so = absurd (search (rules, sym (ap (has_user p) (same_name g id so) ∙ stored) ∙ none))

-- groups

pub group_extends : (p : Policy) (name : List ℕ) → Extends p (record p { groups = with_group name p.groups })
group_extends p name = record { users = λ id h. h; groups = λ other h. any_inserted name_cmp (bytes_eq other) name p.groups h }

pub group_kept : (p : Policy) (name : List ℕ) → IsPolicy p → has_user p name ≡ false → IsPolicy (record p { groups = with_group name p.groups })
group_kept p name invariants free = record {
  apart = all_inserted (λ (g : List ℕ). has_user p g ≡ false) name_cmp name p.groups free invariants.apart;
  connects = connects_on p (record p { groups = with_group name p.groups }) (group_extends p name) p.connects invariants.connects;
  profiles = profiles_on p (record p { groups = with_group name p.groups }) (group_extends p name) p.profiles invariants.profiles;
}

pub connect_kept : (p : Policy) (c : Connect) → IsPolicy p → IsConnectOfStored p c → IsPolicy (record p { connects = with_connect c p.connects })
connect_kept p c invariants stored = record {
  apart = invariants.apart;
  connects = all_inserted (IsConnectOfStored p) connect_cmp c p.connects stored invariants.connects;
  profiles = invariants.profiles;
}

-- profiles

pub with_profiles_kept : (p : Policy) (profiles : List Profile) → IsPolicy p → AllByRecursion (IsProfileOfStored p) profiles
    → IsPolicy (record p { profiles = profiles })
with_profiles_kept p profiles invariants all = record { apart = invariants.apart; connects = invariants.connects; profiles = all }

found_stored : (p : Policy) (class : Class) (pattern : List ℕ) (q : Profile) → IsPolicy p → profile_of p.profiles class pattern ≡ Some q → IsProfileOfStored p q
found_stored p class pattern q invariants at = all_found (IsProfileOfStored p) (is_of class pattern) q p.profiles at invariants.profiles

pub defined_stored : (p : Policy) (d : Profile) → IsPolicy p → has_user p d.owner ≡ true
    → AllByRecursion (IsEntryOfStored p) d.entries → IsPolicy (record p { profiles = with_definition d p.profiles })
defined_stored p d invariants owner entries =
    with_profiles_kept p (with_definition d p.profiles) invariants
    (all_replaced (IsProfileOfStored p) profile_cmp
    (record d {
      entries = option_map_or (λ (q : Profile). q.entries) (profile_of p.profiles d.class d.pattern)
          d.entries;
    }) p.profiles
    (owner, go (profile_of p.profiles d.class d.pattern) refl) invariants.profiles)
  where
    go : (o : Option Profile) → profile_of p.profiles d.class d.pattern ≡ o
        → AllByRecursion (IsEntryOfStored p) (option_map_or (λ (q : Profile). q.entries) o d.entries)
    go None at = entries
    go (Some q) at = (found_stored p d.class d.pattern q invariants at).1

pub permission_kept : (p : Policy) (class : Class) (pattern : List ℕ) (e : Entry) → IsPolicy p → IsEntryOfStored p e
    → IsPolicy (record p { profiles = with_permission class pattern e p.profiles })
permission_kept p class pattern e invariants stored =
    with_profiles_kept p (with_permission class pattern e p.profiles) invariants
    (go (profile_of p.profiles class pattern) refl)
  where
    go : (o : Option Profile) → profile_of p.profiles class pattern ≡ o
        → AllByRecursion (IsProfileOfStored p)
        (option_map_or (λ (q : Profile). replace_key profile_cmp p.profiles
        (record q { entries = with_entry e q.entries })) o p.profiles)
    go None at = invariants.profiles
    go (Some q) at =
        let was = found_stored p class pattern q invariants at in
        all_replaced (IsProfileOfStored p) profile_cmp (record q { entries = with_entry e q.entries }) p.profiles
        (was.0, all_replaced (IsEntryOfStored p) entry_cmp e q.entries stored was.1) invariants.profiles

pub less_permission_kept : (p : Policy) (class : Class) (pattern id : List ℕ) (when : Option (List ℕ)) → IsPolicy p
    → IsPolicy (record p { profiles = without_permission class pattern id when p.profiles })
less_permission_kept p class pattern id when invariants =
    with_profiles_kept p (without_permission class pattern id when p.profiles) invariants
    (go (profile_of p.profiles class pattern) refl)
  where
    go : (o : Option Profile) → profile_of p.profiles class pattern ≡ o
        → AllByRecursion (IsProfileOfStored p)
        (option_map_or (λ (q : Profile). replace_key profile_cmp p.profiles
        (record q { entries = without_entry id when q.entries })) o p.profiles)
    go None at = invariants.profiles
    go (Some q) at =
        let was = found_stored p class pattern q invariants at in
        all_replaced (IsProfileOfStored p) profile_cmp (record q { entries = without_entry id when q.entries }) p.profiles
        (was.0, all_filter (IsEntryOfStored p) (λ (e : Entry). not (is_for when id e)) q.entries was.1) invariants.profiles

-- a user that is not in use is removed

module _ (p : Policy) (b : BoardRows) (id : List ℕ) (unused : is_in_use p b id ≡ false) where
  abbrev gone : Policy
  gone = record p { users = without_user id p.users }

  unconnected : list_any (λ (c : Connect). bytes_eq c.user id) p.connects ≡ false
  unconnected = or_left (list_any (λ (c : Connect). bytes_eq c.user id) p.connects)
      (list_any (λ (q : Profile). bytes_eq q.owner id || has_entry id q) p.profiles)
      (or_left ((list_any (λ (c : Connect). bytes_eq c.user id) p.connects)
      || (list_any (λ (q : Profile). bytes_eq q.owner id || has_entry id q) p.profiles)) (is_on id b) unused)

  unowning : list_any (λ (q : Profile). bytes_eq q.owner id || has_entry id q) p.profiles ≡ false
  unowning = or_right (list_any (λ (c : Connect). bytes_eq c.user id) p.connects)
      (list_any (λ (q : Profile). bytes_eq q.owner id || has_entry id q) p.profiles)
      (or_left ((list_any (λ (c : Connect). bytes_eq c.user id) p.connects)
      || (list_any (λ (q : Profile). bytes_eq q.owner id || has_entry id q) p.profiles)) (is_on id b) unused)

  off : is_on id b ≡ false
  off = or_right ((list_any (λ (c : Connect). bytes_eq c.user id) p.connects)
      || (list_any (λ (q : Profile). bytes_eq q.owner id || has_entry id q) p.profiles)) (is_on id b) unused

  stays : (x : List ℕ) → bytes_eq x id ≡ false → has_user p x ≡ true → has_user gone x ≡ true
  stays x differs there = find_filter (λ (u : User). bytes_eq x u.id) (λ (u : User). not (bytes_eq u.id id))
      (λ u same. ap not (ap (λ n. bytes_eq n id) (sym (same_name x u.id same)) ∙ differs)) p.users there

  entry_stays : (e : Entry) → bytes_eq e.id id ≡ false → IsEntryOfStored p e → IsEntryOfStored gone e
  entry_stays e differs stored = either_on (bytes_eq e.id (codes "*")) (has_user p e.id) (has_group p e.id)
      (has_user gone e.id) (has_group p e.id) (stays e.id differs) (λ h. h) stored

  profile_stays : (q : Profile) → (bytes_eq q.owner id || has_entry id q) ≡ false → IsProfileOfStored p q → IsProfileOfStored gone q
  profile_stays q free stored = (
    stays q.owner (or_left (bytes_eq q.owner id) (has_entry id q) free) stored.0,
    all_unless (λ (e : Entry). bytes_eq e.id id) (IsEntryOfStored p) (IsEntryOfStored gone) entry_stays q.entries
        (or_right (bytes_eq q.owner id) (has_entry id q) free) stored.1,
  )

  pub gone_kept : IsPolicy p → IsPolicy gone
  gone_kept invariants = record {
    apart = all_weaker (λ (g : List ℕ). has_user p g ≡ false) (λ (g : List ℕ). has_user gone g ≡ false)
        (λ g none. fewer_found (λ (u : User). bytes_eq g u.id) (λ (u : User). not (bytes_eq u.id id)) p.users none)
        p.groups invariants.apart;
    connects = all_unless (λ (c : Connect). bytes_eq c.user id) (IsConnectOfStored p) (IsConnectOfStored gone)
        (λ c differs stored. (stays c.user differs stored.0, stored.1)) p.connects unconnected invariants.connects;
    profiles = all_unless (λ (q : Profile). bytes_eq q.owner id || has_entry id q) (IsProfileOfStored p)
        (IsProfileOfStored gone) profile_stays p.profiles unowning invariants.profiles;
  }

  holder_stays : (user : Option (List ℕ)) → is_holder id user ≡ false → IfSome user (λ x. has_user p x ≡ true) → IfSome user (λ x. has_user gone x ≡ true)
  holder_stays None differs stored = tt
  holder_stays (Some x) differs stored = stays x differs stored

  pub gone_board : IsKeptBoard p b → IsKeptBoard gone b
  gone_board kept = (
    kept.0,
    all_unless (λ (c : ConsoleRow). is_holder id c.user) (IsConsoleOfStored p) (IsConsoleOfStored gone)
        (λ c differs stored. holder_stays c.user differs stored) b.consoles off kept.1,
  )

-- what is made of a policy, if anything is
abbrev pub IfMade : (Policy → Type 0) → Result Policy Fault → Type 0
IfMade P (Ok q) = P q
IfMade P (Err f) = Unit {0}

pub unless_made : (P : Policy → Type 0) (b : Bool) (name : List ℕ) (made : Result Policy Fault) → (b ≡ false → IfMade P made) → IfMade P (unless b name made)
unless_made P true name made h = tt
unless_made P false name made h = h refl

pub needing_made : (P : Policy → Type 0) (b : Bool) (name : List ℕ) (made : Result Policy Fault) → (b ≡ true → IfMade P made) → IfMade P (needing b name made)
needing_made P true name made h = h refl
needing_made P false name made h = tt

pub in_use_made : (P : Policy → Type 0) (b : Bool) (name : List ℕ) (made : Result Policy Fault)
    → (b ≡ false → IfMade P made) → IfMade P (unless_in_use b name made)
in_use_made P true name made h = tt
in_use_made P false name made h = h refl
