-- What operations leave in a policy, by what is found at each name.
use Rattle.std.proofs.Common.{◌≡◌, ◌≢◌, ℕ, Bool, true, false, not, List, [], ◌∷◌, Option, Some, None, Result, Ok, Err, refl, sym, ap, subst, ◌∙◌, rules}
use Rattle.std.specs.List.{AllByRecursion, filter}
use Rattle.std.specs.Option.{is_some, option_map, option_map_or}
use Rattle.std.specs.Str.{bytes_eq}
use Rattle.opc_names.specs.declared.class.Class.{Class}
use Rattle.opc_terms.specs.declared.fault.Fault.{Fault}
use Rattle.opc_terms.specs.declared.fault.Fault.TheVariants.{Missing}
use Rattle.opc_policy_members.specs.declared.connect.Connect.{Connect}
use Rattle.opc_policy_members.specs.declared.entry.Entry.{Entry}
use Rattle.opc_policy_members.specs.declared.policy.Policy.{Policy}
use Rattle.opc_policy_members.specs.declared.profile.Profile.{Profile}
use Rattle.opc_policy_members.specs.declared.user.User.{User}
use Rattle.opc_policy_members.specs.Access.{entry_level, is_for}
use Rattle.opc_policy_members.specs.Members.{user_of}
use Rattle.opc_policy_members.specs.Profiles.{is_of, profile_of, with_profile}
use Rattle.opc_policy_members.proofs.ProfilesByKey.{profile_of-is}
use Rattle.opc_rows.proofs.Filtered.{find_seen}
use Rattle.opc_rows.proofs.Orders.{all_found}
use Rattle.opc_state.specs.Loads.{is_connected}
use Rattle.opc_state.specs.Members.{without_connect, without_entry, without_permission, without_profile, without_user}
use Rattle.opc_state.specs.State.{State}
use Rattle.opc_machine.specs.declared.operation.Operation.{Operation}
use Rattle.opc_machine.specs.declared.operation.Operation.TheVariants as operation
use Rattle.opc_machine.specs.Administration.{changed}
use Rattle.opc_machine_laws.specs.ObstacleLaws.{first_obstacle, obstacles}
use Rattle.opc_machine_laws.specs.OperationLaws.{HasChanged, OperationsChangeWhatTheyName, ProfileLeaves}
use Rattle.opc_machine_laws.specs.RowLaws.{HasPattern, IsKept, IsOther, IsPermitted}
use Rattle.opc_machine_laws.proofs.Finding.{find_left_out, find_not_kept}
use Rattle.opc_machine_laws.proofs.Hindering.{obstacles_are_faults}
use Rattle.opc_machine_laws.proofs.Keys.{both_true, name_itself, same_classes, same_name, same_place}
use Rattle.opc_machine_laws.proofs.RowEffects.{
  class_kept,
  connect_kept,
  fails,
  group_kept,
  is_connect,
  permitted,
  profile_becomes,
  profile_here,
  profile_others,
  user_kept,
}
use Rattle.opc_machine_laws.proofs.RowsKept.{any_found}
use Rattle.opc_machine_laws.proofs.Taking.{do_what_they_say}

flipped : (a b : List ℕ) → bytes_eq a b ≡ true → bytes_eq b a ≡ true
flipped a b same = subst (λ n. bytes_eq n a ≡ true) (same_name a b same) (name_itself a)

-- users

user_gone : (id : List ℕ) (users : List User) → IsKept (user_of users) (user_of (without_user id users)) id None
user_gone id users = record {
  here = find_not_kept (λ (u : User). bytes_eq id u.id) (λ (u : User). not (bytes_eq u.id id)) (λ u same. ap not (flipped id u.id same)) users;
  others = λ other apart. find_seen (λ (u : User). bytes_eq other u.id) (λ (u : User). not (bytes_eq u.id id))
      (λ u same. ap not (fails (bytes_eq u.id id) (λ is. apart (same_name other u.id same ∙ same_name u.id id is)))) users;
}

-- connects

connect_gone : (user group : List ℕ) (p : Policy) → IsKept (λ (c : List ℕ × List ℕ). is_connected p c.0 c.1) (λ (c : List ℕ × List ℕ). is_connected (record p {
  connects = without_connect (record {
    user = user;
    group = group;
  }) p.connects;
}) c.0 c.1) (user, group) false
connect_gone user group p = record {
  here = any_found (is_connect user group) left ∙ ap is_some (find_left_out (is_connect user group) p.connects);
  others = λ other apart.
      any_found (is_connect other.0 other.1) left
      ∙ ap is_some (find_seen (is_connect other.0 other.1) (λ (c : Connect). not (is_connect user group c))
      (λ c same. ap not (fails (is_connect user group c) (λ is. differ other c apart same is))) p.connects)
      ∙ sym (any_found (is_connect other.0 other.1) p.connects);
}
  where
    left : List Connect
    left = filter (λ (c : Connect). not (is_connect user group c)) p.connects

    differ : (other : List ℕ × List ℕ) (c : Connect) → other ≢ (user, group) → is_connect other.0 other.1 c ≡ true → is_connect user group c ≡ true → ⊥
    differ other c apart same is =
        let a = both_true (bytes_eq c.user other.0) (bytes_eq c.group other.1) same in
        let b = both_true (bytes_eq c.user user) (bytes_eq c.group group) is in
        let one : other.0 ≡ user = sym (same_name c.user other.0 a.0) ∙ same_name c.user user b.0 in
        let two : other.1 ≡ group = sym (same_name c.group other.1 a.1) ∙ same_name c.group group b.1 in
        apart (ap (λ (n : List ℕ). (n, other.1)) one ∙ ap (λ (n : List ℕ). (user, n)) two)

-- profiles

profile_gone : (class : Class) (pattern : List ℕ) (p : Policy)
    → ProfileLeaves class pattern p (record p { profiles = without_profile class pattern p.profiles })
profile_gone class pattern p = record {
  gone = find_left_out (is_of class pattern) p.profiles;
  others = λ c n other. find_seen (is_of c n) (λ (q : Profile). not (is_of class pattern q)) (λ q same. ap not (fails (is_of class pattern q) (λ is.
      let a = both_true _ _ same in
      let b = both_true _ _ is in
      other (sym (same_classes q.class c a.0) ∙ same_classes q.class class b.0)
      (sym (same_name q.pattern n a.1) ∙ same_name q.pattern pattern b.1)))) p.profiles;
}

-- entries

entry_gone : (id : List ℕ) (when : Option (List ℕ)) (entries : List Entry) → entry_level (without_entry id when entries) when id ≡ None
entry_gone id when entries = ap (option_map (λ (e : Entry). e.level)) (find_left_out (is_for when id) entries)

entry_left : (id : List ℕ) (when : Option (List ℕ)) (entries : List Entry) (other : List ℕ) (place : Option (List ℕ))
    → IsOther other place id when → entry_level (without_entry id when entries) place other ≡ entry_level entries place
    other
entry_left id when entries other place apart =
    ap (option_map (λ (e : Entry). e.level))
    (find_seen (is_for place other) (λ (e : Entry). not (is_for when id e))
    (λ e same. ap not (fails (is_for when id e) (λ is.
    let a = both_true _ _ same in
    let b = both_true _ _ is in
    apart (sym (same_name e.id other a.0) ∙ same_name e.id id b.0) (sym (same_place e.when place a.1) ∙ same_place e.when when b.1)))) entries)

-- the profiles without this entry in the list of one
abbrev without : List ℕ → Option (List ℕ) → List Profile → Option Profile → List Profile
without id when profiles o = option_map_or (λ (q : Profile). with_profile (record q { entries = without_entry id when q.entries }) profiles) o profiles

forbidden : (class : Class) (pattern id : List ℕ) (when : Option (List ℕ)) (p : Policy)
    → AllByRecursion HasPattern p.profiles → is_some (profile_of p.profiles class pattern) ≡ true
    → IsPermitted class pattern id when None p (record p { profiles = without_permission class pattern id when p.profiles })
forbidden class pattern id when p stored there = go (profile_of p.profiles class pattern) refl there
  where
    go : (o : Option Profile) → profile_of p.profiles class pattern ≡ o → is_some o ≡ true
        → IsPermitted class pattern id when None p
        (record p { profiles = without id when p.profiles (profile_of p.profiles class pattern) })
    go None at h = absurd (cc)
    go (Some q) at h =
        let new : Profile = record q { entries = without_entry id when q.entries } in
        let is = profile_of-is class pattern p.profiles q at in
        let written : HasPattern new = all_found HasPattern (is_of class pattern) q p.profiles at stored in
        let found : profile_of (with_profile new p.profiles) class pattern ≡ Some new =
        subst (λ (c : Class). profile_of (with_profile new p.profiles) c pattern ≡ Some new) is.0
        (subst (λ (n : List ℕ). profile_of (with_profile new p.profiles) q.class n ≡ Some new) is.1
        (profile_here new p.profiles written stored)) in
        let made : IsPermitted class pattern id when None p (record p { profiles = with_profile new p.profiles }) = record {
          profile = q;
          entries = new.entries;
          there = at;
          here = found;
          given = entry_gone id when q.entries;
          listed = entry_left id when q.entries;
          others = λ c n apart. profile_others new p.profiles written stored c n (λ one two. apart (one ∙ is.0) (two ∙ is.1));
        } in
        subst (λ (o : Option Profile). IsPermitted class pattern id when None p (record p { profiles = without id when p.profiles o })) (sym at) made

-- operations

-- if it is done, the first possible obstacle is not there
defined_in : (s : State) (o : Operation) (pattern : List ℕ) (b : Bool) (rest : List (Bool × Fault)) (new : State)
    → obstacles s o ≡ (not b, Missing pattern) ∷ rest → changed s o ≡ Ok new → b ≡ true
defined_in s o pattern true rest new first makes = refl
defined_in s o pattern false rest new first makes =
    let refused : changed s o ≡ Err (Missing pattern) = obstacles_are_faults s o (Missing pattern) (ap first_obstacle first) in
    let both : ◌≡◌ {A = Result State Fault} (Ok new) (Err (Missing pattern)) = sym makes ∙ refused in
    absurd (search (rules, both))

so : (s new : State) (o : Operation) (p : Policy) → HasChanged o s.policy p → new ≡ record s { policy = p } → HasChanged o s.policy new.policy
so s new o p has becomes = subst (λ (t : State). HasChanged o s.policy t.policy) (sym becomes) has

pub operations_change : OperationsChangeWhatTheyName
operations_change s (operation.AddUser id special auditor digest restricted) new stored patterned makes =
    so s new (operation.AddUser id special auditor digest restricted) _ (
      user_kept (record {
        id = id;
        special = special;
        auditor = auditor;
        revoked = false;
        digest = digest;
        restricted = restricted;
      }) s.policy.users,
      refl,
    ) (do_what_they_say s (operation.AddUser id special auditor digest restricted) new makes)
operations_change s (operation.AltUser id special auditor revoked digest restricted) new stored patterned makes =
    so s new (operation.AltUser id special auditor revoked digest restricted) _ (
      user_kept (record {
        id = id;
        special = special;
        auditor = auditor;
        revoked = revoked;
        digest = digest;
        restricted = restricted;
      }) s.policy.users,
      refl,
    ) (do_what_they_say s (operation.AltUser id special auditor revoked digest restricted) new makes)
operations_change s (operation.DelUser id) new stored patterned makes =
    so s new (operation.DelUser id) _ (user_gone id s.policy.users, refl)
    (do_what_they_say s (operation.DelUser id) new makes)
operations_change s (operation.AddGroup name) new stored patterned makes =
    so s new (operation.AddGroup name) _ (group_kept name s.policy, refl)
    (do_what_they_say s (operation.AddGroup name) new makes)
operations_change s (operation.Connect user group) new stored patterned makes =
    so s new (operation.Connect user group) _ (connect_kept user group s.policy, refl)
    (do_what_they_say s (operation.Connect user group) new makes)
operations_change s (operation.Remove user group) new stored patterned makes =
    so s new (operation.Remove user group) _ (connect_gone user group s.policy, refl)
    (do_what_they_say s (operation.Remove user group) new makes)
operations_change s (operation.RDefine class pattern owner uacc warning) new stored patterned makes =
    so s new (operation.RDefine class pattern owner uacc warning) _ (
      profile_becomes (record {
        class = class;
        pattern = pattern;
        owner = owner;
        uacc = uacc;
        warning = warning;
        entries = [];
      }) s.policy refl patterned stored,
      refl,
    )
    (do_what_they_say s (operation.RDefine class pattern owner uacc warning) new makes)
operations_change s (operation.RAlter class pattern owner uacc warning) new stored patterned makes =
    so s new (operation.RAlter class pattern owner uacc warning) _ (
      profile_becomes (record {
        class = class;
        pattern = pattern;
        owner = owner;
        uacc = uacc;
        warning = warning;
        entries = [];
      }) s.policy refl patterned stored,
      refl,
    )
    (do_what_they_say s (operation.RAlter class pattern owner uacc warning) new makes)
operations_change s (operation.RDelete class pattern) new stored patterned makes =
    so s new (operation.RDelete class pattern) _ (profile_gone class pattern s.policy, refl)
    (do_what_they_say s (operation.RDelete class pattern) new makes)
operations_change s (operation.Permit class pattern id level when) new stored patterned makes =
    so s new (operation.Permit class pattern id level when) _ (
      permitted class pattern id when level s.policy stored
          (defined_in s (operation.Permit class pattern id level when) pattern
          (is_some (profile_of s.policy.profiles class pattern)) _ new refl makes),
      refl,
    )
    (do_what_they_say s (operation.Permit class pattern id level when) new makes)
operations_change s (operation.PermitDelete class pattern id when) new stored patterned makes =
    so s new (operation.PermitDelete class pattern id when) _ (
      forbidden class pattern id when s.policy stored
          (defined_in s (operation.PermitDelete class pattern id when) pattern
          (is_some (profile_of s.policy.profiles class pattern)) _ new refl makes),
      refl,
    )
    (do_what_they_say s (operation.PermitDelete class pattern id when) new makes)
operations_change s (operation.ClassActive class active) new stored patterned makes =
    so s new (operation.ClassActive class active) _ (class_kept class active s.policy.active, refl)
    (do_what_they_say s (operation.ClassActive class active) new makes)
operations_change s (operation.DefineConsole name auth mode) new stored patterned makes =
    ap (λ (t : State). t.policy) (do_what_they_say s (operation.DefineConsole name auth mode) new makes)
