-- Each edit keeps the order of the parts.
use Rattle.std.proofs.Common.{◌≡◌, ℕ, Bool, List, Option, Some, None, sym, subst, refl, arith}
use Rattle.std.specs.Option.{option_map_or}
use Rattle.sqlite_keyed.proofs.ListLemmas.{ascending-filter, all-filter}
use Rattle.opc_store_sql.specs.Order.{Rises}
use Rattle.opc_store_sql.proofs.Sets.{replaced_rises, all_replaced, inserted_same}
use Rattle.opc_store_sql.proofs.Parts.{found_one}
use Rattle.opc_names.specs.declared.class.Class.{Class}
use Rattle.opc_names.specs.Names.{IsPattern}
use Rattle.opc_policy_members.specs.declared.connect.Connect.{Connect}
use Rattle.opc_policy_members.specs.declared.entry.Entry.{Entry}
use Rattle.opc_policy_members.specs.declared.profile.Profile.{Profile}
use Rattle.opc_policy_members.specs.declared.user.User.{User}
use Rattle.opc_policy_members.specs.Access.{entry_cmp, with_entry}
use Rattle.opc_policy_members.specs.Members.{name_cmp, user_cmp, connect_cmp, with_group, with_user, with_connect}
use Rattle.opc_policy_members.specs.Profiles.{
  profile_cmp,
  is_of,
  profile_of,
  with_profile,
  with_definition,
  with_permission,
}
use Rattle.opc_policy_members.specs.Taken.{with_active}
use Rattle.opc_state.specs.State.{State, empty}
use Rattle.opc_state.specs.Changes.{with_actives, with_groups, with_users, with_connects, with_profiles}
use Rattle.opc_state.specs.Members.{
  without_group,
  without_user,
  without_connect,
  without_profile,
  without_entry,
  without_permission,
}
use Rattle.opc_store_schema.specs.State.{IsOrdered, IsNamed, IsAccessList}
use Rattle.opc_store_schema.proofs.Keys.{
  group_total,
  same_name,
  user_total,
  connect_total,
  same_connect,
  profile_total,
  entry_total,
}

pub empty_ordered : IsOrdered empty
empty_ordered = record {
  groups = tt;
  users = tt;
  connects = tt;
  profiles = tt;
  patterns = tt;
  entries = tt;
  units = tt;
  devices = tt;
  consoles = tt;
  replies = tt;
  batches = tt;
  read_back = tt;
  numbered = (omega arith, omega arith, omega arith, omega arith);
}

module _ (s : State) (h : IsOrdered s) where
  pub active_ordered : (class : Class) (active : Bool) → IsOrdered (with_actives (with_active class active s.policy.active) s)
  active_ordered class active = record {
    groups = h.groups;
    users = h.users;
    connects = h.connects;
    profiles = h.profiles;
    patterns = h.patterns;
    entries = h.entries;
    units = h.units;
    devices = h.devices;
    consoles = h.consoles;
    replies = h.replies;
    batches = h.batches;
    read_back = h.read_back;
    numbered = h.numbered;
  }

  pub with_group_ordered : (name : List ℕ) → IsOrdered (with_groups (with_group name s.policy.groups) s)
  with_group_ordered name = record {
    groups = subst (λ (l : List (List ℕ)). Rises name_cmp l)
        (sym (inserted_same name_cmp same_name name s.policy.groups))
        (replaced_rises name_cmp group_total name s.policy.groups h.groups);
    users = h.users;
    connects = h.connects;
    profiles = h.profiles;
    patterns = h.patterns;
    entries = h.entries;
    units = h.units;
    devices = h.devices;
    consoles = h.consoles;
    replies = h.replies;
    batches = h.batches;
    read_back = h.read_back;
    numbered = h.numbered;
  }

  pub without_group_ordered : (name : List ℕ) → IsOrdered (with_groups (without_group name s.policy.groups) s)
  without_group_ordered name = record {
    groups = ascending-filter _ _ s.policy.groups h.groups;
    users = h.users;
    connects = h.connects;
    profiles = h.profiles;
    patterns = h.patterns;
    entries = h.entries;
    units = h.units;
    devices = h.devices;
    consoles = h.consoles;
    replies = h.replies;
    batches = h.batches;
    read_back = h.read_back;
    numbered = h.numbered;
  }

  pub with_user_ordered : (user : User) → IsOrdered (with_users (with_user user s.policy.users) s)
  with_user_ordered user = record {
    groups = h.groups;
    users = replaced_rises user_cmp user_total user s.policy.users h.users;
    connects = h.connects;
    profiles = h.profiles;
    patterns = h.patterns;
    entries = h.entries;
    units = h.units;
    devices = h.devices;
    consoles = h.consoles;
    replies = h.replies;
    batches = h.batches;
    read_back = h.read_back;
    numbered = h.numbered;
  }

  pub without_user_ordered : (id : List ℕ) → IsOrdered (with_users (without_user id s.policy.users) s)
  without_user_ordered id = record {
    groups = h.groups;
    users = ascending-filter _ _ s.policy.users h.users;
    connects = h.connects;
    profiles = h.profiles;
    patterns = h.patterns;
    entries = h.entries;
    units = h.units;
    devices = h.devices;
    consoles = h.consoles;
    replies = h.replies;
    batches = h.batches;
    read_back = h.read_back;
    numbered = h.numbered;
  }

  pub with_connect_ordered : (c : Connect) → IsOrdered (with_connects (with_connect c s.policy.connects) s)
  with_connect_ordered c = record {
    groups = h.groups;
    users = h.users;
    connects = subst (λ (l : List Connect). Rises connect_cmp l)
        (sym (inserted_same connect_cmp same_connect c s.policy.connects))
        (replaced_rises connect_cmp connect_total c s.policy.connects h.connects);
    profiles = h.profiles;
    patterns = h.patterns;
    entries = h.entries;
    units = h.units;
    devices = h.devices;
    consoles = h.consoles;
    replies = h.replies;
    batches = h.batches;
    read_back = h.read_back;
    numbered = h.numbered;
  }

  pub without_connect_ordered : (c : Connect) → IsOrdered (with_connects (without_connect c s.policy.connects) s)
  without_connect_ordered c = record {
    groups = h.groups;
    users = h.users;
    connects = ascending-filter _ _ s.policy.connects h.connects;
    profiles = h.profiles;
    patterns = h.patterns;
    entries = h.entries;
    units = h.units;
    devices = h.devices;
    consoles = h.consoles;
    replies = h.replies;
    batches = h.batches;
    read_back = h.read_back;
    numbered = h.numbered;
  }

  profiles_ordered : (p : Profile) → IsPattern p.pattern → IsAccessList p.entries → IsOrdered (with_profiles (with_profile p s.policy.profiles) s)
  profiles_ordered p valid list = record {
    groups = h.groups;
    users = h.users;
    connects = h.connects;
    profiles = replaced_rises profile_cmp profile_total p s.policy.profiles h.profiles;
    patterns = all_replaced profile_cmp profile_total (λ (q : Profile). IsPattern q.pattern) p s.policy.profiles valid h.patterns;
    entries = all_replaced profile_cmp profile_total (λ (q : Profile). IsAccessList q.entries) p s.policy.profiles list h.entries;
    units = h.units;
    devices = h.devices;
    consoles = h.consoles;
    replies = h.replies;
    batches = h.batches;
    read_back = h.read_back;
    numbered = h.numbered;
  }

  pub definition_ordered : (profile : Profile) → IsPattern profile.pattern → IsAccessList profile.entries
      → IsOrdered (with_profiles (with_definition profile s.policy.profiles) s)
  definition_ordered profile valid list = profiles_ordered _ valid (go (profile_of s.policy.profiles profile.class profile.pattern) refl)
    where
      go : (o : Option Profile) → profile_of s.policy.profiles profile.class profile.pattern ≡ o
          → IsAccessList (option_map_or (λ (p : Profile). p.entries) o profile.entries)
      go None absent = list
      go (Some p) here = found_one (λ (q : Profile). IsAccessList q.entries) (is_of profile.class profile.pattern) s.policy.profiles p h.entries here

  -- if it is there
  pub definition_kept : (profile : Profile) → IsPattern profile.pattern → (p : Profile)
      → profile_of s.policy.profiles profile.class profile.pattern ≡ Some p
      → IsOrdered (with_profiles (with_definition profile s.policy.profiles) s)
  definition_kept profile valid p here =
      let list : IsAccessList p.entries =
      found_one (λ (q : Profile). IsAccessList q.entries) (is_of profile.class profile.pattern) s.policy.profiles p
      h.entries here in
      profiles_ordered _ valid (subst (λ (o : Option Profile). IsAccessList (option_map_or (λ (p : Profile). p.entries) o profile.entries)) (sym here) list)

  pub without_profile_ordered : (class : Class) (pattern : List ℕ) → IsOrdered (with_profiles (without_profile class pattern s.policy.profiles) s)
  without_profile_ordered class pattern = record {
    groups = h.groups;
    users = h.users;
    connects = h.connects;
    profiles = ascending-filter _ _ s.policy.profiles h.profiles;
    patterns = all-filter _ _ s.policy.profiles h.patterns;
    entries = all-filter _ _ s.policy.profiles h.entries;
    units = h.units;
    devices = h.devices;
    consoles = h.consoles;
    replies = h.replies;
    batches = h.batches;
    read_back = h.read_back;
    numbered = h.numbered;
  }

  -- a change of one access list that keeps it a list
  list_ordered : (class : Class) (pattern : List ℕ) (change : List Entry → List Entry)
      → ((es : List Entry) → IsAccessList es → IsAccessList (change es)) → (o : Option Profile)
      → profile_of s.policy.profiles class pattern ≡ o
      → IsOrdered (with_profiles (option_map_or
      (λ (p : Profile). with_profile (record p { entries = change p.entries }) s.policy.profiles) o
      s.policy.profiles) s)
  list_ordered class pattern change keeps None absent = h
  list_ordered class pattern change keeps (Some p) here =
      profiles_ordered (record p { entries = change p.entries })
      (found_one (λ (q : Profile). IsPattern q.pattern) (is_of class pattern) s.policy.profiles p h.patterns here)
      (keeps p.entries (found_one (λ (q : Profile). IsAccessList q.entries) (is_of class pattern) s.policy.profiles p h.entries here))

  pub permission_ordered : (class : Class) (pattern : List ℕ) (e : Entry) → IsNamed e
      → IsOrdered (with_profiles (with_permission class pattern e s.policy.profiles) s)
  permission_ordered class pattern e named =
      list_ordered class pattern (with_entry e)
      (λ es h. (
        replaced_rises entry_cmp entry_total e es h.0,
        all_replaced entry_cmp entry_total IsNamed e es named h.1,
      )) (profile_of s.policy.profiles class pattern) refl

  pub without_permission_ordered : (class : Class) (pattern id : List ℕ) (when : Option (List ℕ))
      → IsOrdered (with_profiles (without_permission class pattern id when s.policy.profiles) s)
  without_permission_ordered class pattern id when =
      list_ordered class pattern (without_entry id when) (λ es h. (ascending-filter _ _ es h.0, all-filter _ _ es h.1))
      (profile_of s.policy.profiles class pattern) refl
