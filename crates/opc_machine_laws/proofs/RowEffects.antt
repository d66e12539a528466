-- What a row makes of a policy, by what is found at each name.
use Rattle.std.proofs.Common.{◌≡◌, ◌≢◌, ℕ, Bool, true, false, cond, ◌&&◌, ◌||◌, List, [], Option, Some, None, Result, Ok, refl, sym, ap, subst, ◌∙◌, rules}
use Rattle.std.specs.List.{AllByRecursion, find, list_any}
use Rattle.std.specs.Option.{is_some, option_eq, option_map, option_map_or}
use Rattle.std.specs.Str.{bytes_eq}
use Rattle.std.specs.declared.cmp.Ordering.TheVariants.{Equal}
use Rattle.opc_names.specs.declared.class.Class.{Class}
use Rattle.opc_names.specs.declared.class.Class.TheVariants.{Console, Opercmds}
use Rattle.opc_names.specs.declared.level.Level.{Level}
use Rattle.opc_names.specs.Authority.{same_class}
use Rattle.opc_names.specs.Order.{sort_key}
use Rattle.opc_names.proofs.KeysDiffer.{keys_differ}
use Rattle.opc_terms.specs.declared.fault.Fault.{Fault}
use Rattle.opc_policy_members.specs.declared.connect.Connect.{Connect}
use Rattle.opc_policy_members.specs.declared.entry.Entry.{Entry}
use Rattle.opc_policy_members.specs.declared.policy.ActiveClasses.{ActiveClasses}
use Rattle.opc_policy_members.specs.declared.policy.Policy.{Policy}
use Rattle.opc_policy_members.specs.declared.profile.Profile.{Profile}
use Rattle.opc_policy_members.specs.declared.row.Row.TheVariants as rows
use Rattle.opc_policy_members.specs.declared.user.User.{User}
use Rattle.opc_policy_members.specs.Access.{entry_cmp, entry_level, is_for, with_entry}
use Rattle.opc_policy_members.specs.Members.{connect_cmp, name_cmp, user_cmp, user_of, with_connect, with_group, with_user}
use Rattle.opc_policy_members.specs.Profiles.{class_cmp, is_of, pattern_cmp, profile_cmp, profile_of, with_definition, with_permission, with_profile}
use Rattle.opc_policy_members.specs.Taken.{has_group, has_holder, has_user, is_active, needing, with_active}
use Rattle.opc_policy_members.proofs.ProfilesByKey.{profile_of-is}
use Rattle.opc_rows.proofs.Orders.{all_found, all_weaker}
use Rattle.opc_state.specs.Loads.{is_connected}
use Rattle.opc_machine_laws.specs.RowLaws.{HasPattern, HasTaken, IsKept, IsOther, IsPermitted, ProfileBecomes, RowsDoWhatTheySay}
use Rattle.opc_machine_laws.proofs.Finding.{Ties, any_inserted, find_replaced}
use Rattle.opc_machine_laws.proofs.Keys.{
  all_of,
  both_tied,
  both_true,
  class_itself,
  classes_tie,
  name_itself,
  names_tie,
  other_name,
  place_itself,
  places_tie,
  same_classes,
  same_name,
  same_place,
  then_tied,
  tied_classes,
  tied_names,
  tied_places,
}
use Rattle.opc_machine_laws.proofs.Taking.{needing_ok, unless_ok}

-- a test that is not passed
pub fails : (b : Bool) → (b ≡ true → ⊥) → b ≡ false
fails true h = absurd (h refl)
fails false h = refl

-- classes

pub class_kept : (class : Class) (on : Bool) (active : ActiveClasses) → IsKept (is_active active) (is_active (with_active class on active)) class on
class_kept Console on active = record { here = refl; others = λ other apart. other_active other apart }
  where
    other_active : (other : Class) → other ≢ Console → is_active (with_active Console on active) other ≡ is_active active other
    other_active Console apart = absurd (apart refl)
    other_active Opercmds apart = refl
class_kept Opercmds on active = record { here = refl; others = λ other apart. other_active other apart }
  where
    other_active : (other : Class) → other ≢ Opercmds → is_active (with_active Opercmds on active) other ≡ is_active active other
    other_active Console apart = refl
    other_active Opercmds apart = absurd (apart refl)

-- groups

group_found : (name other : List ℕ) (groups : List (List ℕ))
    → list_any (bytes_eq other) (with_group name groups) ≡ (bytes_eq other name || list_any (bytes_eq other) groups)
group_found name other groups = any_inserted name_cmp (bytes_eq other) name groups
    (all_of (Ties name_cmp (bytes_eq other) name) (λ g tie. ap (bytes_eq other) (sym (tied_names name g tie))) groups)

pub group_kept : (name : List ℕ) (p : Policy) → IsKept (has_group p) (has_group (record p { groups = with_group name p.groups })) name true
group_kept name p = record {
  here = group_found name name p.groups ∙ ap (λ b. b || list_any (bytes_eq name) p.groups) (name_itself name);
  others = λ other apart. group_found name other p.groups ∙ ap (λ b. b || list_any (bytes_eq other) p.groups) (other_name other name apart);
}

-- users

user_found : (user : User) (id : List ℕ) (users : List User) → user_of (with_user user users) id ≡ cond (bytes_eq id user.id) (Some user) (user_of users id)
user_found user id users =
    find_replaced user_cmp (λ (u : User). bytes_eq id u.id) user
    (λ u one other. names_tie user.id u.id (sym (same_name id user.id one) ∙ same_name id u.id other)) users
    (all_of (Ties user_cmp (λ (u : User). bytes_eq id u.id) user) (λ u tie. ap (bytes_eq id) (sym (tied_names user.id u.id tie))) users)

pub user_kept : (user : User) (users : List User) → IsKept (user_of users) (user_of (with_user user users)) user.id (Some user)
user_kept user users = record {
  here = user_found user user.id users ∙ ap (λ b. cond b (Some user) (user_of users user.id)) (name_itself user.id);
  others = λ other apart. user_found user other users ∙ ap (λ b. cond b (Some user) (user_of users other)) (other_name other user.id apart);
}

-- connects

abbrev pub is_connect : List ℕ → List ℕ → Connect → Bool
is_connect user group c = bytes_eq c.user user && bytes_eq c.group group

connect_found : (c : Connect) (user group : List ℕ) (connects : List Connect)
    → list_any (is_connect user group) (with_connect c connects) ≡ (is_connect user group c
    || list_any (is_connect user group) connects)
connect_found c user group connects =
    any_inserted connect_cmp (is_connect user group) c connects (all_of (Ties connect_cmp (is_connect user group) c) alike connects)
  where
    alike : (d : Connect) → Ties connect_cmp (is_connect user group) c d
    alike d tie =
        let both = both_tied (name_cmp c.user d.user) (name_cmp c.group d.group) tie in
        ap (λ n. bytes_eq n user && bytes_eq d.group group) (sym (tied_names c.user d.user both.0))
        ∙ ap (λ n. bytes_eq c.user user && bytes_eq n group) (sym (tied_names c.group d.group both.1))

pub connect_kept : (user group : List ℕ) (p : Policy)
    → IsKept (λ (c : List ℕ × List ℕ). is_connected p c.0 c.1) (λ (c : List ℕ × List ℕ). is_connected (record p {
      connects = with_connect (record {
        user = user;
        group = group;
      }) p.connects;
    }) c.0 c.1) (user, group) true
connect_kept user group p = record {
  here = connect_found made user group p.connects
      ∙ ap (λ b. (b && bytes_eq group group) || is_connected p user group) (name_itself user)
      ∙ ap (λ b. b || is_connected p user group) (name_itself group);
  others = λ other apart. connect_found made other.0 other.1 p.connects
      ∙ ap (λ b. b || is_connected p other.0 other.1) (fails (is_connect other.0 other.1 made) (differ other apart));
}
  where
    made : Connect
    made = record { user = user; group = group }

    differ : (other : List ℕ × List ℕ) → other ≢ (user, group) → is_connect other.0 other.1 made ≡ true → ⊥
    differ other apart same =
        let both = both_true (bytes_eq user other.0) (bytes_eq group other.1) same in
        let one : other.0 ≡ user = sym (same_name user other.0 both.0) in
        let two : other.1 ≡ group = sym (same_name group other.1 both.1) in
        apart (ap (λ (n : List ℕ). (n, other.1)) one ∙ ap (λ (n : List ℕ). (user, n)) two)

-- profiles

of_both : (class : Class) (pattern : List ℕ) (profile : Profile) → is_of class pattern profile ≡ true → (profile.class ≡ class) × (profile.pattern ≡ pattern)
of_both class pattern profile h = let both =
    both_true (same_class profile.class class) (bytes_eq profile.pattern pattern) h in
    (same_classes profile.class class both.0, same_name profile.pattern pattern both.1)

is_of_itself : (profile : Profile) → is_of profile.class profile.pattern profile ≡ true
is_of_itself profile = ap (λ b. b && bytes_eq profile.pattern profile.pattern) (class_itself profile.class) ∙ name_itself profile.pattern

is_of_no_other : (class : Class) (pattern : List ℕ) (profile : Profile)
    → IsOther class pattern profile.class profile.pattern → is_of class pattern profile ≡ false
is_of_no_other class pattern profile apart = fails (is_of class pattern profile) (λ same.
    let both = of_both class pattern profile same in
    apart (sym both.0) (sym both.1))

profiles_tie : (one other : Profile) → one.class ≡ other.class → one.pattern ≡ other.pattern → profile_cmp one other ≡ Equal
profiles_tie one other classes patterns =
    then_tied (class_cmp one.class other.class) (pattern_cmp one.pattern other.pattern)
    (subst (λ (c : Class). class_cmp one.class c ≡ Equal) classes (classes_tie one.class))
    (names_tie (sort_key one.pattern) (sort_key other.pattern) (ap sort_key patterns))

tied_profiles : (class : Class) (pattern : List ℕ) (one other : Profile) → HasPattern one → HasPattern other
    → profile_cmp one other ≡ Equal → is_of class pattern other ≡ is_of class pattern one
tied_profiles class pattern one other written stored tie =
    let both = both_tied (class_cmp one.class other.class) (pattern_cmp one.pattern other.pattern) tie in
    let patterns : one.pattern ≡ other.pattern =
    keys_differ one.pattern other.pattern written stored
    (tied_names (sort_key one.pattern) (sort_key other.pattern) both.1) in
    ap (λ (c : Class). same_class c class && bytes_eq other.pattern pattern)
    (sym (tied_classes one.class other.class both.0))
    ∙ ap (λ (n : List ℕ). same_class one.class class && bytes_eq n pattern) (sym patterns)

module _ (profile : Profile) (profiles : List Profile) (written : HasPattern profile) (stored : AllByRecursion HasPattern profiles) where
  pub profile_found : (class : Class) (pattern : List ℕ)
      → profile_of (with_profile profile profiles) class pattern ≡ cond (is_of class pattern profile) (Some profile)
      (profile_of profiles class pattern)
  profile_found class pattern =
      find_replaced profile_cmp (is_of class pattern) profile
      (λ q one other. let a = of_both class pattern profile one in let b = of_both class pattern q other in
      profiles_tie profile q (a.0 ∙ sym b.0) (a.1 ∙ sym b.1)) profiles
      (all_weaker HasPattern (Ties profile_cmp (is_of class pattern) profile)
      (λ q has tie. tied_profiles class pattern profile q written has tie) profiles stored)

  pub profile_here : profile_of (with_profile profile profiles) profile.class profile.pattern ≡ Some profile
  profile_here = profile_found profile.class profile.pattern
      ∙ ap (λ b. cond b (Some profile) (profile_of profiles profile.class profile.pattern)) (is_of_itself profile)

  pub profile_others : (class : Class) (pattern : List ℕ) → IsOther class pattern profile.class profile.pattern
      → profile_of (with_profile profile profiles) class pattern ≡ profile_of profiles class pattern
  profile_others class pattern apart = profile_found class pattern
      ∙ ap (λ b. cond b (Some profile) (profile_of profiles class pattern)) (is_of_no_other class pattern profile apart)

abbrev entries_of : Option Profile → List Entry
entries_of o = option_map_or (λ (p : Profile). p.entries) o []

pub profile_becomes : (profile : Profile) (p : Policy) → profile.entries ≡ [] → HasPattern profile
    → AllByRecursion HasPattern p.profiles
    → ProfileBecomes profile p (record p { profiles = with_definition profile p.profiles })
profile_becomes profile p bare written stored = record {
  kept = λ was at. here ∙ ap Some (ap (λ (o : Option Profile). record profile { entries = option_map_or (λ (q : Profile). q.entries) o profile.entries }) at);
  fresh = λ none. here
      ∙ ap Some (ap (λ (o : Option Profile). record profile
      { entries = option_map_or (λ (q : Profile). q.entries) o profile.entries }) none
      ∙ ap (λ (es : List Entry). record profile { entries = es }) bare);
  others = λ class pattern apart. profile_others made p.profiles written stored class pattern apart;
}
  where
    made : Profile
    made = record profile { entries = option_map_or (λ (q : Profile). q.entries) (profile_of p.profiles profile.class profile.pattern) profile.entries }

    here : profile_of (with_profile made p.profiles) profile.class profile.pattern ≡ Some made
    here = profile_here made p.profiles written stored

-- entries

entry_found : (e : Entry) (id : List ℕ) (when : Option (List ℕ)) (entries : List Entry)
    → find (is_for when id) (with_entry e entries) ≡ cond (is_for when id e) (Some e) (find (is_for when id) entries)
entry_found e id when entries =
    find_replaced entry_cmp (is_for when id) e
    (λ f one other.
    let a = for_both e one in
    let b = for_both f other in
    then_tied _ _ (names_tie e.id f.id (a.0 ∙ sym b.0)) (places_tie e.when f.when (a.1 ∙ sym b.1))) entries
    (all_of (Ties entry_cmp (is_for when id) e) alike entries)
  where
    for_both : (f : Entry) → is_for when id f ≡ true → (f.id ≡ id) × (f.when ≡ when)
    for_both f h = let both = both_true (bytes_eq f.id id) (option_eq bytes_eq f.when when) h in (same_name f.id id both.0, same_place f.when when both.1)

    alike : (f : Entry) → Ties entry_cmp (is_for when id) e f
    alike f tie =
        let both = both_tied _ _ tie in
        ap (λ (n : List ℕ). bytes_eq n id && option_eq bytes_eq f.when when) (sym (tied_names e.id f.id both.0))
        ∙ ap (λ (o : Option (List ℕ)). bytes_eq e.id id && option_eq bytes_eq o when)
        (sym (tied_places e.when f.when both.1))

module _ (id : List ℕ) (when : Option (List ℕ)) (level : Level) (entries : List Entry) where
  abbrev given : Entry
  given = record { id = id; when = when; level = level }

  for_itself : is_for when id given ≡ true
  for_itself = ap (λ b. b && option_eq bytes_eq when when) (name_itself id) ∙ place_itself when

  for_no_other : (other : List ℕ) (place : Option (List ℕ)) → IsOther other place id when → is_for place other given ≡ false
  for_no_other other place apart = fails (is_for place other given) (λ same.
      let both = both_true (bytes_eq id other) (option_eq bytes_eq when place) same in
      apart (sym (same_name id other both.0)) (sym (same_place when place both.1)))

  entry_given : entry_level (with_entry given entries) when id ≡ Some level
  entry_given = ap (option_map (λ (e : Entry). e.level))
      (entry_found given id when entries ∙ ap (λ b. cond b (Some given) (find (is_for when id) entries)) for_itself)

  entry_listed : (other : List ℕ) (place : Option (List ℕ)) → IsOther other place id when
      → entry_level (with_entry given entries) place other ≡ entry_level entries place other
  entry_listed other place apart = ap (option_map (λ (e : Entry). e.level))
      (entry_found given other place entries
      ∙ ap (λ b. cond b (Some given) (find (is_for place other) entries)) (for_no_other other place apart))

-- the profiles with this entry in the list of one
abbrev pub listing : Entry → List Profile → Option Profile → List Profile
listing e profiles o = option_map_or (λ (q : Profile). with_profile (record q { entries = with_entry e q.entries }) profiles) o profiles

pub permitted : (class : Class) (pattern id : List ℕ) (when : Option (List ℕ)) (level : Level) (p : Policy)
    → AllByRecursion HasPattern p.profiles → is_some (profile_of p.profiles class pattern) ≡ true
    → IsPermitted class pattern id when (Some level) p (record p {
      profiles = with_permission class pattern (record {
        id = id;
        when = when;
        level = level;
      }) p.profiles;
    })
permitted class pattern id when level p stored there = go (profile_of p.profiles class pattern) refl there
  where
    go : (o : Option Profile) → profile_of p.profiles class pattern ≡ o → is_some o ≡ true → IsPermitted class pattern id when (Some level) p (record p {
      profiles = listing (record {
        id = id;
        when = when;
        level = level;
      }) p.profiles (profile_of p.profiles class pattern);
    })
    go None at h = absurd (cc)
    go (Some q) at h =
        let new : Profile = record q { entries = with_entry (record { id = id; when = when; level = level }) q.entries } in
        let is = profile_of-is class pattern p.profiles q at in
        let written : HasPattern new = all_found HasPattern (is_of class pattern) q p.profiles at stored in
        let found : profile_of (with_profile new p.profiles) class pattern ≡ Some new =
        subst (λ (c : Class). profile_of (with_profile new p.profiles) c pattern ≡ Some new) is.0
        (subst (λ (n : List ℕ). profile_of (with_profile new p.profiles) q.class n ≡ Some new) is.1
        (profile_here new p.profiles written stored)) in
        let made : IsPermitted class pattern id when (Some level) p (record p { profiles = with_profile new p.profiles }) = record {
          profile = q;
          entries = new.entries;
          there = at;
          here = found;
          given = entry_given id when level q.entries;
          listed = entry_listed id when level q.entries;
          others = λ c n apart. profile_others new p.profiles written stored c n (λ one two. apart (one ∙ is.0) (two ∙ is.1));
        } in
        subst (λ (o : Option Profile). IsPermitted class pattern id when (Some level) p (record p {
          profiles = listing (record {
            id = id;
            when = when;
            level = level;
          }) p.profiles o;
        })) (sym at) made

-- rows

pub row_so : (p q : Policy) (P : Policy → Type 0) → P p → ◌≡◌ {A = Result Policy Fault} (Ok p) (Ok q) → P q
row_so p q P h same = let one : p ≡ q = search (rules, same) in subst P one h

needed : (b : Bool) (name : List ℕ) (made : Result Policy Fault) (p : Policy) → needing b name made ≡ Ok p → b ≡ true
needed true name made p h = refl
needed false name made p h = absurd (search (rules, h))

pub rows_do : RowsDoWhatTheySay
rows_do (rows.Class class on) old new stored written makes = row_so _ new (HasTaken (rows.Class class on) old) (class_kept class on old.active, refl) makes
rows_do (rows.Group name) old new stored written makes =
    row_so _ new (HasTaken (rows.Group name) old) (group_kept name old, refl)
    (unless_ok (has_user old name) name _ new makes)
rows_do (rows.User user) old new stored written makes =
    row_so _ new (HasTaken (rows.User user) old) (user_kept user old.users, refl)
    (unless_ok (has_group old user.id) user.id _ new makes)
rows_do (rows.Connect user group) old new stored written makes =
    row_so _ new (HasTaken (rows.Connect user group) old) (connect_kept user group old, refl)
    (needing_ok (has_group old group) group _ new (needing_ok (has_user old user) user _ new makes))
rows_do (rows.Console name auth mode) old new stored written makes = row_so old new (HasTaken (rows.Console name auth mode) old) refl makes
rows_do (rows.Profile class pattern uacc owner warning) old new stored written makes =
    row_so _ new (HasTaken (rows.Profile class pattern uacc owner warning) old)
    (profile_becomes (record { class = class; pattern = pattern; owner = owner; uacc = uacc; warning = warning; entries = [] }) old refl written stored, refl)
    (needing_ok (has_user old owner) owner _ new makes)
rows_do (rows.Permit class pattern id level when) old new stored written makes =
    row_so _ new (HasTaken (rows.Permit class pattern id level when) old)
    (permitted class pattern id when level old stored (needed (is_some (profile_of old.profiles class pattern)) pattern _ new makes), refl)
    (needing_ok (has_holder old id) id _ new (needing_ok (is_some (profile_of old.profiles class pattern)) pattern _ new makes))
