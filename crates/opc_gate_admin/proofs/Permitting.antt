-- What is put among profiles and in access lists, what is removed, and when that leaves them as they are.
use Rattle.std.proofs.Common.{◌≡◌, ℕ, Ok, Bool, true, false, cond, ◌&&◌, ◌||◌, List, [], ◌∷◌, Option, Some, None, Equal, refl, sym, ap, ap₂, subst, ◌∙◌, rules}
use Rattle.std.specs.Cmp.{IsTotalOrder}
use Rattle.std.specs.Cmp.Lexicographic.{options_total, slice_cmp}
use Rattle.std.specs.List.{find, list_any}
use Rattle.std.specs.Option.{is_some, option_cmp, option_eq, option_map, option_map_or}
use Rattle.std.specs.Ordering.{is_lt, nat_cmp, ordering_then}
use Rattle.std.specs.Str.{bytes_eq}
use Rattle.std.proofs.lemmas.Cmp.{on_total, then_total, nat_cmp_total, nat_list_cmp_total}
use Rattle.opc_names.specs.Authority.{same_class}
use Rattle.opc_names.specs.Order.{sort_key}
use Rattle.opc_names.specs.Spellings.{level_text}
use Rattle.opc_names.specs.declared.class.Class.{Class}
use Rattle.opc_names.specs.declared.class.Class.TheVariants.{Console, Opercmds}
use Rattle.opc_names.specs.declared.level.Level.{Level}
use Rattle.opc_policy_members.proofs.Classes.{same_class_is}
use Rattle.opc_policy_members.specs.declared.entry.Entry.{Entry}
use Rattle.opc_policy_members.specs.declared.profile.Profile.{Profile}
use Rattle.opc_policy_members.specs.Access.{entry_cmp, entry_level, is_for, with_entry}
use Rattle.opc_policy_members.specs.Profiles.{class_cmp, is_of, pattern_cmp, profile_cmp, profile_of, with_definition, with_permission, with_profile}
use Rattle.opc_policy_members.specs.Taken.{has_holder, has_user}
use Rattle.opc_rows.specs.Ordered.{Ascends}
use Rattle.opc_rows.proofs.Orders.{all_found}
use Rattle.opc_board.specs.declared.board.BoardRows.{BoardRows}
use Rattle.opc_state.specs.declared.change.Edit.TheVariants as edit
use Rattle.opc_state.specs.Changes.{edited}
use Rattle.opc_state.specs.Invariants.{IsKeyed}
use Rattle.opc_state.specs.Loads.{bare, level_for}
use Rattle.opc_state.specs.Members.{without_entry, without_permission, without_profile}
use Rattle.opc_state.specs.State.{State}
use Rattle.opc_state.proofs.SameRows.{first, name_itself, names, rest}
use Rattle.opc_machine.specs.declared.operation.Operation.TheVariants as operation
use Rattle.opc_machine.specs.Administration.{has_entry_for, is_permitted, policy_changed}
use Rattle.opc_gate_admin.specs.Operations.{has_level, level_in, same_definition}
use Rattle.opc_gate_admin.proofs.Idle.{found_passes, found_put, itself, none_found, none_left, put_again, some_is}
use Rattle.opc_gate_admin.proofs.People.{there_is, there_is_none}
use Rattle.opc_gate_admin.proofs.Same.{AreDefinedAlike, definition_is, definition_itself, level_is}

abbrev class_rank : Class → ℕ
class_rank Console = 0
class_rank Opercmds = 1

by_rank : (c d : Class) → nat_cmp (class_rank c) (class_rank d) ≡ class_cmp c d
by_rank Console Console = refl
by_rank Console Opercmds = refl
by_rank Opercmds Console = refl
by_rank Opercmds Opercmds = refl

class_total : IsTotalOrder class_cmp
class_total = subst IsTotalOrder (λ i c d. by_rank c d i) (on_total class_rank nat_cmp_total)

profile_total : IsTotalOrder profile_cmp
profile_total = then_total (on_total (λ (p : Profile). p.class) class_total) (on_total (λ (p : Profile). sort_key p.pattern) nat_list_cmp_total)

entry_total : IsTotalOrder entry_cmp
entry_total = then_total (on_total (λ (e : Entry). e.id) nat_list_cmp_total) (on_total (λ (e : Entry). e.when) (options_total nat_list_cmp_total))

-- ---- one profile

-- two of one class and pattern tie
compares_equal : (class : Class) (pattern : List ℕ) (q r : Profile) → is_of class pattern q ≡ true → is_of class pattern r ≡ true → profile_cmp q r ≡ Equal
compares_equal class pattern q r one other =
    let of_class : r.class ≡ q.class = same_class_is _ _ (first _ _ other) ∙ sym (same_class_is _ _ (first _ _ one)) in
    let of_pattern : r.pattern ≡ q.pattern = names _ _ (rest (same_class r.class class) _ other) ∙ sym (names _ _ (rest (same_class q.class class) _ one)) in
    ap₂ (λ c p. ordering_then (class_cmp q.class c) (pattern_cmp q.pattern p)) of_class of_pattern ∙ itself (profile_cmp q q) (profile_total.antisymm q q)

-- a profile that is put is found
put_is_found : (class : Class) (pattern : List ℕ) (q : Profile) (ps : List Profile) → is_of class pattern q ≡ true
    → profile_of (with_profile q ps) class pattern ≡ Some q
put_is_found class pattern q ps here = found_put profile_cmp (is_of class pattern) q ps here (λ r h. compares_equal class pattern q r here h)

-- so one that is put and differs changes the profiles, and one that is put and is the same does not
put_differs : (s : State) (class : Class) (pattern : List ℕ) (p q : Profile)
    → profile_of s.policy.profiles class pattern ≡ Some p → is_of class pattern q ≡ true
    → with_profile q s.policy.profiles ≡ s.policy.profiles → p ≡ q
put_differs s class pattern p q found here stays =
    some_is p q (sym found ∙ sym (ap (λ ps. profile_of ps class pattern) stays)
    ∙ put_is_found class pattern q s.policy.profiles here)

found_again : (class : Class) (pattern : List ℕ) (q : Profile) (s : State) → IsKeyed s
    → profile_of s.policy.profiles class pattern ≡ Some q → with_profile q s.policy.profiles ≡ s.policy.profiles
found_again class pattern q s order found = put_again profile_cmp profile_total (is_of class pattern) q s.policy.profiles order.profiles found

is_found : (s : State) (class : Class) (pattern : List ℕ) (p : Profile) → profile_of s.policy.profiles class pattern ≡ Some p → is_of class pattern p ≡ true
is_found s class pattern p found = found_passes (is_of class pattern) p s.policy.profiles found

-- what is looked up is there, or is not
there_to_see : {A : Type 0} (o : Option A) → is_some o ≡ true → (x : A) × (o ≡ Some x)
there_to_see None h = absurd (search (rules, h))
there_to_see (Some x) h = (x, refl)

not_there : {A : Type 0} (o : Option A) → is_some o ≡ false → o ≡ None
not_there None h = refl
not_there (Some x) h = absurd (search (rules, h))

-- ---- one entry

abbrev permitted : Profile → Entry → Profile
permitted p e = record p { entries = with_entry e p.entries }

permits : (s : State) (class : Class) (pattern : List ℕ) (e : Entry) (p : Profile) → profile_of s.policy.profiles class pattern ≡ Some p
    → with_permission class pattern e s.policy.profiles ≡ with_profile (permitted p e) s.policy.profiles
permits s class pattern e p found = ap (λ o. option_map_or (λ (q : Profile). with_profile (permitted q e) s.policy.profiles) o s.policy.profiles) found

-- the level that is loaded is that of the list
level_found : (s : State) (class : Class) (pattern id : List ℕ) (when : Option (List ℕ)) (p : Profile) → profile_of s.policy.profiles class pattern ≡ Some p
    → level_for s.policy class pattern id when ≡ entry_level p.entries when id
level_found s class pattern id when p found = ap (λ o. entry_level (option_map_or (λ (q : Profile). q.entries) o []) when id) found

when_is : (a b : Option (List ℕ)) → option_eq bytes_eq a b ≡ true → a ≡ b
when_is None None h = refl
when_is (Some a) (Some b) h = ap Some (names a b h)
when_is (Some a) None h = absurd (search (rules, h))
when_is None (Some b) h = absurd (search (rules, h))

when_itself : (a : Option (List ℕ)) → option_eq bytes_eq a a ≡ true
when_itself None = refl
when_itself (Some a) = name_itself a

for_itself : (e : Entry) → is_for e.when e.id e ≡ true
for_itself e = ap (λ b. b && option_eq bytes_eq e.when e.when) (name_itself e.id) ∙ when_itself e.when

entry_tied : (e f : Entry) → is_for e.when e.id f ≡ true → entry_cmp e f ≡ Equal
entry_tied e f h =
    ap₂ (λ n w. ordering_then (slice_cmp nat_cmp e.id n) (option_cmp (slice_cmp nat_cmp) e.when w))
    (names f.id e.id (first _ _ h)) (when_is f.when e.when (rest (bytes_eq f.id e.id) _ h))
    ∙ itself (entry_cmp e e) (entry_total.antisymm e e)

entry_found : (e : Entry) (entries : List Entry) → entry_level (with_entry e entries) e.when e.id ≡ Some e.level
entry_found e entries = ap (option_map (λ (f : Entry). f.level)) (found_put entry_cmp (is_for e.when e.id) e entries (for_itself e) (entry_tied e))

pub may_be_permitted : (s : State) (b : BoardRows) (class : Class) (pattern : List ℕ) (e : Entry)
    → is_some (profile_of s.policy.profiles class pattern) ≡ true → has_holder s.policy e.id ≡ true
    → policy_changed b (operation.Permit class pattern e.id e.level e.when) s.policy ≡ Ok
    (record s.policy { profiles = with_permission class pattern e s.policy.profiles })
may_be_permitted s b class pattern e there holder = there_is _ pattern _ there ∙ there_is _ e.id _ holder

-- An entry that is not there, or with another level, changes the access list,
pub permission_changes : (s : State) (class : Class) (pattern : List ℕ) (e : Entry) → is_some (profile_of s.policy.profiles class pattern) ≡ true
    → has_level (level_for s.policy class pattern e.id e.when) e.level ≡ false → edited (edit.PutEntry class pattern e) s ≡ s → ⊥
permission_changes s class pattern e there lacks same = go (there_to_see _ there)
  where
    go : (p : Profile) × (profile_of s.policy.profiles class pattern ≡ Some p) → ⊥
    go (p, found) =
        let stays = sym (permits s class pattern e p found) ∙ ap (λ (t : State). t.policy.profiles) same in
        let is : p ≡ permitted p e = put_differs s class pattern p (permitted p e) found (is_found s class pattern p found) stays in
        let level : entry_level p.entries e.when e.id ≡ Some e.level = ap (λ (q : Profile). entry_level q.entries e.when e.id) is ∙ entry_found e p.entries in
        let has : has_level (level_for s.policy class pattern e.id e.when) e.level ≡ true =
        ap (λ o. has_level o e.level) (level_found s class pattern e.id e.when p found ∙ level)
        ∙ name_itself (level_text e.level) in
        cc

-- and one that is there as it is leaves everything as it is, since all is in order.
same_entry : (e : Entry) (entries : List Entry) → has_level (entry_level entries e.when e.id) e.level ≡ true → find (is_for e.when e.id) entries ≡ Some e
same_entry e entries has = go (find (is_for e.when e.id) entries) refl has
  where
    go : (o : Option Entry) → find (is_for e.when e.id) entries ≡ o → has_level (option_map (λ (f : Entry). f.level) o) e.level ≡ true → o ≡ Some e
    go None found h = absurd (search (rules, h))
    go (Some f) found h =
        let here : is_for e.when e.id f ≡ true = found_passes (is_for e.when e.id) f entries found in
        let id : f.id ≡ e.id = names f.id e.id (first _ _ here) in
        let when : f.when ≡ e.when = when_is f.when e.when (rest (bytes_eq f.id e.id) _ here) in
        let level : f.level ≡ e.level = level_is f.level e.level h in
        λ i. Some (record { id = id i; when = when i; level = level i })

pub permission_again : (s : State) (class : Class) (pattern : List ℕ) (e : Entry) → IsKeyed s → is_some (profile_of s.policy.profiles class pattern) ≡ true
    → has_level (level_for s.policy class pattern e.id e.when) e.level ≡ true → with_permission class pattern e s.policy.profiles ≡ s.policy.profiles
permission_again s class pattern e order there has = go (there_to_see _ there)
  where
    go : (p : Profile) × (profile_of s.policy.profiles class pattern ≡ Some p) → with_permission class pattern e s.policy.profiles ≡ s.policy.profiles
    go (p, found) =
        let risen : Ascends (λ (f g : Entry). is_lt (entry_cmp f g)) p.entries =
        all_found (λ (q : Profile). Ascends (λ (f g : Entry). is_lt (entry_cmp f g)) q.entries)
        (is_of class pattern) p s.policy.profiles found order.entries in
        let listed : has_level (entry_level p.entries e.when e.id) e.level ≡ true =
        ap (λ o. has_level o e.level) (sym (level_found s class pattern e.id e.when p found)) ∙ has in
        let stays : with_entry e p.entries ≡ p.entries =
        put_again entry_cmp entry_total (is_for e.when e.id) e p.entries risen (same_entry e p.entries listed) in
        permits s class pattern e p found
        ∙ ap (λ es. with_profile (record p { entries = es }) s.policy.profiles) stays
        ∙ found_again class pattern p s order found

-- an entry has a level if the list has it
found_any : (test : Entry → Bool) (entries : List Entry) → is_some (option_map (λ (e : Entry). e.level) (find test entries)) ≡ list_any test entries
found_any test [] = refl
found_any test (e ∷ es) = go (test e) (found_any test es)
  where
    go : (b : Bool) → is_some (option_map (λ (f : Entry). f.level) (find test es)) ≡ list_any test es
        → is_some (option_map (λ (f : Entry). f.level) (cond b (Some e) (find test es))) ≡ (b || list_any test es)
    go true later = refl
    go false later = later

listed_at : (p : Option Profile) (when : Option (List ℕ)) (id : List ℕ)
    → is_some (entry_level (option_map_or (λ (q : Profile). q.entries) p []) when id) ≡ option_map_or
    (has_entry_for when id) p false
listed_at None when id = refl
listed_at (Some p) when id = found_any (is_for when id) p.entries

is_listed : (s : State) (class : Class) (pattern id : List ℕ) (when : Option (List ℕ))
    → is_some (level_for s.policy class pattern id when) ≡ is_permitted s.policy class pattern id when
is_listed s class pattern id when = listed_at (profile_of s.policy.profiles class pattern) when id

-- If an entry has a level, its profile is there;
level_at : (p : Option Profile) (when : Option (List ℕ)) (id : List ℕ) (level : Level)
    → entry_level (option_map_or (λ (q : Profile). q.entries) p []) when id ≡ Some level
    → option_map (λ (q : Profile). entry_level q.entries when id) p ≡ Some (Some level)
level_at None when id level h = absurd (search (rules, h))
level_at (Some p) when id level h = ap Some h

pub level_loaded : (s : State) (class : Class) (pattern id : List ℕ) (asked when : Option (List ℕ)) (level : Level)
    → asked ≡ when → Some level ≡ level_for s.policy class pattern id asked
    → Some (Some level) ≡ level_in s.policy class pattern id when
level_loaded s class pattern id asked when level at loaded =
    sym (level_at (profile_of s.policy.profiles class pattern) when id level (ap (level_for s.policy class pattern id) (sym at) ∙ sym loaded))

-- if it has none, the profile is loaded,
none_at : (p : Option Profile) (when : Option (List ℕ)) (id : List ℕ) → is_some p ≡ true
    → entry_level (option_map_or (λ (q : Profile). q.entries) p []) when id ≡ None
    → option_map (λ (q : Profile). entry_level q.entries when id) p ≡ Some None
none_at None when id there h = absurd (search (rules, there))
none_at (Some p) when id there h = ap Some h

pub none_loaded : (s : State) (class : Class) (pattern id : List ℕ) (asked when : Option (List ℕ)) → asked ≡ when
    → None ≡ level_for s.policy class pattern id asked
    → true ≡ is_some (profile_of s.policy.profiles class pattern) → Some None ≡ level_in s.policy class pattern id when
none_loaded s class pattern id asked when at loaded there =
    sym (none_at (profile_of s.policy.profiles class pattern) when id (sym there) (ap (level_for s.policy class pattern id) (sym at) ∙ sym loaded))

pub no_profile : (s : State) (class : Class) (pattern id : List ℕ) (when : Option (List ℕ))
    → false ≡ is_some (profile_of s.policy.profiles class pattern) → None ≡ level_in s.policy class pattern id when
no_profile s class pattern id when free = sym (ap (option_map (λ (q : Profile). entry_level q.entries when id)) (not_there _ (sym free)))

-- and what is found then is the level of the entry in a profile that is there.
found_at : (p : Option Profile) (when : Option (List ℕ)) (id : List ℕ) (held : Option Level)
    → option_map (λ (q : Profile). entry_level q.entries when id) p ≡ Some held
    → (is_some p ≡ true) × (entry_level (option_map_or (λ (q : Profile). q.entries) p []) when id ≡ held)
found_at None when id held h = absurd (search (rules, h))
found_at (Some p) when id held h = (refl, some_is _ held h)

module _ (s : State) (class : Class) (pattern id : List ℕ) (when : Option (List ℕ)) (held : Option Level)
    (is : level_in s.policy class pattern id when ≡ Some held) where
  pub profile_there : is_some (profile_of s.policy.profiles class pattern) ≡ true
  profile_there = (found_at (profile_of s.policy.profiles class pattern) when id held is).0

  pub level_there : level_for s.policy class pattern id when ≡ held
  level_there = (found_at (profile_of s.policy.profiles class pattern) when id held is).1

  pub permitted_there : is_permitted s.policy class pattern id when ≡ is_some held
  permitted_there = sym (is_listed s class pattern id when) ∙ ap is_some level_there

pub may_be_deleted : (s : State) (b : BoardRows) (class : Class) (pattern id : List ℕ) (when : Option (List ℕ))
    → is_some (profile_of s.policy.profiles class pattern) ≡ true
    → is_permitted s.policy class pattern id when ≡ true
    → policy_changed b (operation.PermitDelete class pattern id when) s.policy ≡ Ok
    (record s.policy { profiles = without_permission class pattern id when s.policy.profiles })
may_be_deleted s b class pattern id when there listed =
    there_is _ pattern _ there ∙ there_is _ id _ listed

-- an entry that is removed is not there any more
pub entry_removal_changes : (s : State) (class : Class) (pattern id : List ℕ) (when : Option (List ℕ))
    → is_some (profile_of s.policy.profiles class pattern) ≡ true
    → is_permitted s.policy class pattern id when ≡ true → edited (edit.RemoveEntry class pattern id when) s ≡ s → ⊥
entry_removal_changes s class pattern id when there listed same = go (there_to_see _ there)
  where
    go : (p : Profile) × (profile_of s.policy.profiles class pattern ≡ Some p) → ⊥
    go (p, found) =
        let left : Profile = record p { entries = without_entry id when p.entries } in
        let removes : without_permission class pattern id when s.policy.profiles ≡ with_profile left s.policy.profiles =
        ap (λ o. option_map_or (λ (q : Profile). with_profile (record q { entries = without_entry id when q.entries })
        s.policy.profiles) o s.policy.profiles) found in
        let stays = sym removes ∙ ap (λ (t : State). t.policy.profiles) same in
        let is : p ≡ left = put_differs s class pattern p left found (is_found s class pattern p found) stays in
        let has : list_any (is_for when id) p.entries ≡ true =
        sym (found_any (is_for when id) p.entries) ∙ ap is_some (sym (level_found s class pattern id when p found))
        ∙ is_listed s class pattern id when ∙ listed in
        let none : list_any (is_for when id) p.entries ≡ false =
        ap (λ (q : Profile). list_any (is_for when id) q.entries) is ∙ none_left (is_for when id) p.entries in
        search (rules, sym has ∙ none)

-- ---- definitions

class_itself : (c : Class) → same_class c c ≡ true
class_itself Console = refl
class_itself Opercmds = refl

of_itself : (q : Profile) → is_of q.class q.pattern q ≡ true
of_itself q = ap (λ b. b && bytes_eq q.pattern q.pattern) (class_itself q.class) ∙ name_itself q.pattern

-- a definition with an empty list keeps the list of the profile that is there
kept : (q : Profile) (p : Profile) → q.entries ≡ [] → (ps : List Profile) → profile_of ps q.class q.pattern ≡ Some p
    → with_definition q ps ≡ with_profile (record q { entries = p.entries }) ps
kept q p none ps found = ap (λ o. with_profile (record q { entries = option_map_or (λ (r : Profile). r.entries) o q.entries }) ps) found

pub definition_changes : (s : State) (q : Profile) → is_some (profile_of s.policy.profiles q.class q.pattern) ≡ false → edited (edit.PutProfile q) s ≡ s → ⊥
definition_changes s q free same =
    let ps : List Profile = s.policy.profiles in
    let none : profile_of ps q.class q.pattern ≡ None = not_there _ free in
    let new : with_definition q ps ≡ with_profile q ps =
    ap (λ o. with_profile (record q { entries = option_map_or (λ (p : Profile). p.entries) o q.entries }) ps) none
    in
    let there : profile_of ps q.class q.pattern ≡ Some q =
    sym (ap (λ (t : State). profile_of t.policy.profiles q.class q.pattern) same)
    ∙ ap (λ qs. profile_of qs q.class q.pattern) new ∙ put_is_found q.class q.pattern q ps (of_itself q) in
    search (rules, sym none ∙ there)

pub defined : (s : State) (b : BoardRows) (q : Profile) → q.entries ≡ []
    → is_some (profile_of s.policy.profiles q.class q.pattern) ≡ false → has_user s.policy q.owner ≡ true
    → policy_changed b (operation.RDefine q.class q.pattern q.owner q.uacc q.warning) s.policy ≡ Ok
    (record s.policy { profiles = with_definition q s.policy.profiles })
defined s b q none free owner =
    there_is_none _ q.pattern _ free ∙ there_is _ q.owner _ owner
    ∙ ap (λ es. Ok (record s.policy { profiles = with_definition (record q { entries = es }) s.policy.profiles })) (sym none)

-- what is loaded of a profile is all but its list
bare_of : (o : Option Profile) (stored : Profile) → option_map bare o ≡ Some stored → (p : Profile) × ((o ≡ Some p) × (bare p ≡ stored))
bare_of None stored h = absurd (search (rules, h))
bare_of (Some p) stored h = (p, (refl, some_is (bare p) stored h))

pub altered : (s : State) (b : BoardRows) (stored q : Profile) → q.entries ≡ []
    → option_map bare (profile_of s.policy.profiles q.class q.pattern) ≡ Some stored → has_user s.policy q.owner ≡ true
    → policy_changed b (operation.RAlter q.class q.pattern q.owner q.uacc q.warning) s.policy ≡ Ok
    (record s.policy { profiles = with_definition q s.policy.profiles })
altered s b stored q none loaded owner =
    there_is _ q.pattern _ (there (bare_of _ stored loaded)) ∙ there_is _ q.owner _ owner
    ∙ ap (λ es. Ok (record s.policy { profiles = with_definition (record q { entries = es }) s.policy.profiles })) (sym none)
  where
    there : (p : Profile) × ((profile_of s.policy.profiles q.class q.pattern ≡ Some p) × (bare p ≡ stored))
        → is_some (profile_of s.policy.profiles q.class q.pattern) ≡ true
    there (p, (found, is)) = ap is_some found

-- one that is defined otherwise changes,
pub alteration_changes : (s : State) (stored q : Profile) → q.entries ≡ []
    → option_map bare (profile_of s.policy.profiles q.class q.pattern) ≡ Some stored → same_definition stored q ≡ false
    → edited (edit.PutProfile q) s ≡ s → ⊥
alteration_changes s stored q none loaded differs same = go (bare_of _ stored loaded)
  where
    go : (p : Profile) × ((profile_of s.policy.profiles q.class q.pattern ≡ Some p) × (bare p ≡ stored)) → ⊥
    go (p, (found, is)) =
        let stays = sym (kept q p none s.policy.profiles found) ∙ ap (λ (t : State). t.policy.profiles) same in
        let same_one : p ≡ record q { entries = p.entries } = put_differs s q.class q.pattern p (record q { entries = p.entries }) found (of_itself q) stays in
        let alike : same_definition stored q ≡ true = ap (λ r. same_definition r q) (sym is) ∙ ap (λ r. same_definition r q) same_one ∙ definition_itself q in
        cc

-- and one that is defined alike does not
pub unaltered : (s : State) (stored q : Profile) → IsKeyed s → q.entries ≡ []
    → option_map bare (profile_of s.policy.profiles q.class q.pattern) ≡ Some stored → same_definition stored q ≡ true
    → with_definition q s.policy.profiles ≡ s.policy.profiles
unaltered s stored q order none loaded same = go (bare_of _ stored loaded)
  where
    go : (p : Profile) × ((profile_of s.policy.profiles q.class q.pattern ≡ Some p) × (bare p ≡ stored))
        → with_definition q s.policy.profiles ≡ s.policy.profiles
    go (p, (found, is)) =
        let alike : AreDefinedAlike p q = definition_is p q (ap (λ r. same_definition r q) is ∙ same) in
        let here : is_of q.class q.pattern p ≡ true = is_found s q.class q.pattern p found in
        let class : q.class ≡ p.class = sym (same_class_is _ _ (first _ _ here)) in
        let pattern : q.pattern ≡ p.pattern = sym (names _ _ (rest (same_class p.class q.class) _ here)) in
        let is_that : record q { entries = p.entries } ≡ p = λ i. record {
          class = class i;
          pattern = pattern i;
          owner = sym alike.owner i;
          uacc = sym alike.uacc i;
          warning = sym alike.warning i;
          entries = p.entries;
        } in
        kept q p none s.policy.profiles found ∙ ap (λ r. with_profile r s.policy.profiles) is_that ∙ found_again q.class q.pattern p s order found

pub profile_removal_changes : (s : State) (class : Class) (pattern : List ℕ)
    → is_some (profile_of s.policy.profiles class pattern) ≡ true → edited (edit.RemoveProfile class pattern) s ≡ s → ⊥
profile_removal_changes s class pattern there same =
    let gone : profile_of (without_profile class pattern s.policy.profiles) class pattern ≡ None =
    none_found (is_of class pattern) (is_of class pattern) (λ q h. h) s.policy.profiles in
    let still : profile_of s.policy.profiles class pattern ≡ None = sym (ap (λ (t : State). profile_of t.policy.profiles class pattern) same) ∙ gone in
    search (rules, sym there ∙ ap is_some still)
