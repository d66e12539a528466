-- Profiles that are kept at their classes and sort keys.
use Rattle.std.proofs.Common.{◌≡◌, refl, sym, ap, subst, ◌∙◌, ℕ, Bool, true, false, ◌&&◌, List, Some, None}
use Rattle.std.specs.BTreeMap.{insert_entry, is_at}
use Rattle.std.specs.Cmp.{both_ways, IsTotalOrder, nat_cmp_total, then_total, on_total, tied_itself}
use Rattle.std.specs.Cmp.Lexicographic.{slice_cmp, texts_ties, nat_list_cmp_total}
use Rattle.std.specs.List.Sorted.{IsStrictlySortedBy}
use Rattle.std.specs.Map.{keys_of, lookup, set_value, values_of}
use Rattle.std.specs.Ordering.{nat_cmp, is_eq, ordering_then}
use Rattle.std.specs.Str.{bytes_eq}
use Rattle.std.specs.declared.cmp.Ordering.{Ordering}
use Rattle.std.specs.declared.cmp.Ordering.TheVariants.{Equal}
use Rattle.std.proofs.lemmas.Slice.Eq.{bytes_eq-Decides}
use Rattle.opc_names.specs.Authority.{same_class}
use Rattle.opc_names.specs.Names.{IsPattern}
use Rattle.opc_names.specs.Order.{sort_key}
use Rattle.opc_names.specs.contracts.class.ClassOrd.TheImpl.{ghosts}
use Rattle.opc_names.specs.declared.class.Class.{Class}
use Rattle.opc_names.specs.declared.class.Class.TheVariants.{Console, Opercmds}
use Rattle.opc_names.proofs.KeysDiffer.{keys_differ}
use Rattle.opc_policy_members.proofs.Maps.{lookup-values, values-insert, All-insert, All-weaker, passes-find, set-insert, replaced-twice}
use Rattle.opc_policy_members.specs.declared.entry.Entry.{Entry}
use Rattle.opc_policy_members.specs.declared.profile.Profile.{Profile}
use Rattle.opc_policy_members.specs.Access.{with_entry}
use Rattle.opc_policy_members.specs.Profiles.{class_cmp, pattern_cmp, profile_cmp, is_of, profile_of, with_profile, with_permission}
use Rattle.opc_policy_members.specs.Stored.{IsAtItsKey, AreByKey}

-- keys as the map compares them
abbrev pub key_cmp : Class × List ℕ → Class × List ℕ → Ordering
key_cmp k l = ordering_then (ghosts.cmp k.0 l.0) (slice_cmp nat_cmp k.1 l.1)

abbrev rank : Class → ℕ
rank Console = 0
rank Opercmds = 1

by_rank : (c d : Class) → nat_cmp (rank c) (rank d) ≡ ghosts.cmp c d
by_rank Console Console = refl
by_rank Console Opercmds = refl
by_rank Opercmds Console = refl
by_rank Opercmds Opercmds = refl

class_total : IsTotalOrder ghosts.cmp
class_total = subst IsTotalOrder (λ i c d. by_rank c d i) (on_total rank nat_cmp_total)

key_order : IsTotalOrder key_cmp
key_order = then_total (on_total (λ (k : Class × List ℕ). k.0) class_total) (on_total (λ (k : Class × List ℕ). k.1) nat_list_cmp_total)

class_order : (c d : Class) → ghosts.cmp c d ≡ class_cmp c d
class_order Console Console = refl
class_order Console Opercmds = refl
class_order Opercmds Console = refl
class_order Opercmds Opercmds = refl

same_keys : (p q : List ℕ) → IsPattern p → IsPattern q → is_eq (pattern_cmp p q) ≡ bytes_eq q p
same_keys p q a b =
    sym (texts_ties (sort_key p) (sort_key q))
    ∙ both_ways (bytes_eq (sort_key p) (sort_key q)) (bytes_eq q p)
    (λ e. (bytes_eq-Decides q p).1 (sym (keys_differ p q a b ((bytes_eq-Decides (sort_key p) (sort_key q)).0 e))))
    (λ e. (bytes_eq-Decides (sort_key p) (sort_key q)).1 (ap sort_key (sym ((bytes_eq-Decides q p).0 e))))

by_class : (c d : Class) (o : Ordering) (b : Bool) → is_eq o ≡ b → is_eq (ordering_then (class_cmp c d) o) ≡ (same_class d c && b)
by_class Console Console o b h = h
by_class Console Opercmds o b h = refl
by_class Opercmds Console o b h = refl
by_class Opercmds Opercmds o b h = h

-- the key of a class and a pattern is that of the profile of both alone
at_key : (class : Class) (pattern : List ℕ) (e : (Class × List ℕ) × Profile) → IsPattern pattern → IsAtItsKey e
    → is_at (key_cmp (class, sort_key pattern)) e.0 ≡ is_of class pattern e.1
at_key class pattern e valid at =
    rw (at.0, at.1, class_order class e.1.class)
    (by_class class e.1.class (pattern_cmp pattern e.1.pattern) (bytes_eq e.1.pattern pattern) (same_keys pattern e.1.pattern valid at.2))

pub lookup-profile : (class : Class) (pattern : List ℕ) (es : List ((Class × List ℕ) × Profile)) → IsPattern pattern
    → AreByKey es → lookup (is_at (key_cmp (class, sort_key pattern))) es ≡ profile_of (values_of es) class pattern
lookup-profile class pattern es valid h =
    lookup-values (is_at (key_cmp (class, sort_key pattern))) (is_of class pattern) es (All-weaker _ _ (λ e at. at_key class pattern e valid at) es h)

pub values-with_profile : (profile : Profile) (es : List ((Class × List ℕ) × Profile)) → AreByKey es
    → values_of (insert_entry key_cmp es (profile.class, sort_key profile.pattern) profile) ≡ with_profile profile
    (values_of es)
values-with_profile profile es h =
    values-insert key_cmp profile_cmp (profile.class, sort_key profile.pattern) profile es
    (All-weaker _ _ (λ e at. rw (at.0, at.1, class_order profile.class e.1.class) refl) es h)

false_true : false ≡ true → ⊥
false_true e = (cc)

both_equal : (c d : Class) (o : Ordering) → ordering_then (class_cmp c d) o ≡ Equal → (c ≡ d) × (o ≡ Equal)
both_equal Console Console o h = (refl, h)
both_equal Console Opercmds o h = (cc)
both_equal Opercmds Console o h = (cc)
both_equal Opercmds Opercmds o h = (refl, h)

pub AreByKey-insert : (profile : Profile) (es : List ((Class × List ℕ) × Profile)) → IsPattern profile.pattern
    → AreByKey es → AreByKey (insert_entry key_cmp es (profile.class, sort_key profile.pattern) profile)
AreByKey-insert profile es valid h =
    All-insert IsAtItsKey key_cmp (profile.class, sort_key profile.pattern) profile es (refl, refl, valid)
    (λ e tie. let both = both_equal profile.class e.0.0 (slice_cmp nat_cmp (sort_key profile.pattern) e.0.1)
    (ap (λ o. ordering_then o (slice_cmp nat_cmp (sort_key profile.pattern) e.0.1))
    (sym (class_order profile.class e.0.0)) ∙ tie) in
    (sym both.0, sym ((bytes_eq-Decides (sort_key profile.pattern) e.0.1).0 (texts_ties (sort_key profile.pattern) e.0.1 ∙ ap is_eq both.1)), valid))
    h

same_of : (class : Class) (pattern : List ℕ) (profile : Profile) → is_of class pattern profile ≡ true → (profile.class ≡ class) × (profile.pattern ≡ pattern)
same_of class pattern profile h = go profile.class class refl refl h
  where
    go : (c d : Class) → profile.class ≡ c → class ≡ d → (same_class c d && bytes_eq profile.pattern pattern) ≡ true
        → (profile.class ≡ class) × (profile.pattern ≡ pattern)
    go Console Console a b e = (a ∙ sym b, (bytes_eq-Decides profile.pattern pattern).0 e)
    go Console Opercmds a b e = absurd (false_true e)
    go Opercmds Console a b e = absurd (false_true e)
    go Opercmds Opercmds a b e = (a ∙ sym b, (bytes_eq-Decides profile.pattern pattern).0 e)

-- what is found is of the class and the pattern
pub profile_of-is : (class : Class) (pattern : List ℕ) (profiles : List Profile) (profile : Profile)
    → profile_of profiles class pattern ≡ Some profile → (profile.class ≡ class) × (profile.pattern ≡ pattern)
profile_of-is class pattern profiles profile found = same_of class pattern profile (passes-find (is_of class pattern) profile profiles found)

-- a profile that is written where the one of its class and pattern is
written : (class : Class) (pattern : List ℕ) (old new : Profile) (es : List ((Class × List ℕ) × Profile))
    → IsPattern pattern → IsStrictlySortedBy key_cmp (keys_of es) → AreByKey es
    → profile_of (values_of es) class pattern ≡ Some old → new.class ≡ class → new.pattern ≡ pattern
    → set_value (is_at (key_cmp (class, sort_key pattern))) es new ≡ insert_entry key_cmp es (new.class, sort_key new.pattern) new
written class pattern old new es valid sorted h found a b =
    set-insert key_order (class, sort_key pattern) new old es sorted (lookup-profile class pattern es valid h ∙ found)
    ∙ rw (a, b) refl

pub values-written : (class : Class) (pattern : List ℕ) (old new : Profile) (es : List ((Class × List ℕ) × Profile))
    → IsPattern pattern → IsStrictlySortedBy key_cmp (keys_of es) → AreByKey es
    → profile_of (values_of es) class pattern ≡ Some old → new.class ≡ class → new.pattern ≡ pattern
    → values_of (set_value (is_at (key_cmp (class, sort_key pattern))) es new) ≡ with_profile new (values_of es)
values-written class pattern old new es valid sorted h found a b =
    ap values_of (written class pattern old new es valid sorted h found a b) ∙ values-with_profile new es h

pub AreByKey-written : (class : Class) (pattern : List ℕ) (old new : Profile) (es : List ((Class × List ℕ) × Profile))
    → IsPattern pattern → IsStrictlySortedBy key_cmp (keys_of es) → AreByKey es
    → profile_of (values_of es) class pattern ≡ Some old → new.class ≡ class → new.pattern ≡ pattern
    → AreByKey (set_value (is_at (key_cmp (class, sort_key pattern))) es new)
AreByKey-written class pattern old new es valid sorted h found a b =
    rw (written class pattern old new es valid sorted h found a b) (AreByKey-insert new es (rw b valid) h)

class_itself : (c : Class) → class_cmp c c ≡ Equal
class_itself Console = refl
class_itself Opercmds = refl

-- a profile that is put, and then again with another access list
pub put-twice : (profile : Profile) (entries : List Entry) (profiles : List Profile)
    → with_profile (record profile { entries = entries }) (with_profile profile profiles) ≡ with_profile
    (record profile { entries = entries }) profiles
put-twice profile entries profiles =
    replaced-twice profile_cmp profile (record profile { entries = entries }) (λ x. refl)
    (rw (class_itself profile.class) (tied_itself nat_list_cmp_total (sort_key profile.pattern))) profiles

-- a profile with one more entry
abbrev pub permitted : Profile → List Entry → Profile
permitted old entries = record { class = old.class; pattern = old.pattern; owner = old.owner; uacc = old.uacc; warning = old.warning; entries = entries }

pub values-permitted : (class : Class) (pattern : List ℕ) (entry : Entry) (old : Profile)
    (es : List ((Class × List ℕ) × Profile)) → IsPattern pattern → IsStrictlySortedBy key_cmp (keys_of es) → AreByKey es
    → profile_of (values_of es) class pattern ≡ Some old
    → values_of (set_value (is_at (key_cmp (class, sort_key pattern))) es
    (permitted old (with_entry entry old.entries))) ≡ with_permission class pattern entry (values_of es)
values-permitted class pattern entry old es valid sorted h found =
    let is = profile_of-is class pattern (values_of es) old found in
    rw found (values-written class pattern old (permitted old (with_entry entry old.entries)) es valid sorted h found is.0 is.1)

pub AreByKey-permitted : (class : Class) (pattern : List ℕ) (entries : List Entry) (old : Profile)
    (es : List ((Class × List ℕ) × Profile)) → IsPattern pattern → IsStrictlySortedBy key_cmp (keys_of es) → AreByKey es
    → profile_of (values_of es) class pattern ≡ Some old
    → AreByKey (set_value (is_at (key_cmp (class, sort_key pattern))) es (permitted old entries))
AreByKey-permitted class pattern entries old es valid sorted h found =
    let is = profile_of-is class pattern (values_of es) old found in
    AreByKey-written class pattern old (permitted old entries) es valid sorted h found is.0 is.1

-- without the profile nothing changes
pub without_profile : (class : Class) (pattern : List ℕ) (entry : Entry) (profiles : List Profile)
    → profile_of profiles class pattern ≡ None → profiles ≡ with_permission class pattern entry profiles
without_profile class pattern entry profiles found = rw found refl
