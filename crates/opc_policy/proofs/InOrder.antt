-- Profiles in the order of their patterns: the first that covers decides.
use Rattle.std.proofs.Common.{◌≡◌, refl, sym, ap, ◌∙◌, ℕ, suc, Bool, true, false, ◌&&◌, cond, List, [], ◌∷◌, map, filter, get_or, Some, All, arith}
use Rattle.std.specs.Prelude.{find}
use Rattle.std.specs.Cmp.Lexicographic.{nat_list_cmp_total}
use Rattle.std.specs.List.{AllPairs}
use Rattle.std.specs.Ordering.{is_lt, ordering_reverse}
use Rattle.std.specs.declared.cmp.Ordering.{Ordering}
use Rattle.std.specs.declared.cmp.Ordering.TheVariants.{Less, Equal, Greater}
use Rattle.std.proofs.lemmas.List.Elements.{All-map, All-filter, filter_passes}
use Rattle.std.proofs.lemmas.List.Kept.{AllPairs-cons, AllPairs-filter}
use Rattle.opc_names.specs.Authority.{same_class}
use Rattle.opc_names.specs.Names.{IsPattern}
use Rattle.opc_names.specs.Order.{Before, sort_key}
use Rattle.opc_names.specs.Patterns.{tokens, covers_text}
use Rattle.opc_names.specs.declared.class.Class.{Class}
use Rattle.opc_names.specs.declared.class.Class.TheVariants.{Console, Opercmds}
use Rattle.opc_policy.proofs.MostSpecific.{before_is}
use Rattle.opc_policy_members.specs.declared.profile.Profile.{Profile}
use Rattle.opc_policy_members.specs.Profiles.{AreProfiles, AreMostSpecificFirst, of_class, is_before}
use Rattle.opc_policy.specs.Deciding.{covering, first_with, first_of, deciding}
use Rattle.opc_policy.specs.Explained.{is_covering, covering_patterns}

-- one after another
all_head : {X : Type 0} (P : X → Type 0) (x : X) (xs : List X) → All P (x ∷ xs) → P x
all_head P x xs h = h 0 x (omega arith)

all_tail : {X : Type 0} (P : X → Type 0) (x : X) (xs : List X) → All P (x ∷ xs) → All P xs
all_tail P x xs h k d less = h (suc k) d (omega arith)

pub pairs_head : {X : Type 0} (R : X → X → Type 0) (x : X) (xs : List X) → AllPairs R (x ∷ xs) → All (R x) xs
pairs_head R x xs h k d less = h 0 (suc k) d (omega arith) (omega arith)

pub pairs_tail : {X : Type 0} (R : X → X → Type 0) (x : X) (xs : List X) → AllPairs R (x ∷ xs) → AllPairs R xs
pairs_tail R x xs h i j d first second = h (suc i) (suc j) d (omega arith) (omega arith)

abbrev pub IsEarlier : Profile → Profile → Type 0
IsEarlier p q = p.class ≡ q.class → is_before p q ≡ true

pub one_class : (c d : Class) → same_class c d ≡ true → c ≡ d
one_class Console Console e = refl
one_class Console Opercmds e = (cc)
one_class Opercmds Console e = (cc)
one_class Opercmds Opercmds e = refl

not_before : (o q : Ordering) → o ≡ ordering_reverse q → is_lt q ≡ true → is_lt o ≡ false
not_before o Less flipped e = rw flipped refl
not_before o Equal flipped e = (cc)
not_before o Greater flipped e = (cc)

-- of two profiles one at most is before the other
pub before_once : (p q : Profile) → is_before p q ≡ true → is_before q p ≡ false
before_once p q e = not_before _ _ (nat_list_cmp_total.antisymm (sort_key q.pattern) (sort_key p.pattern)) e

pub both_true : (a b : Bool) → (a && b) ≡ true → (a ≡ true) × (b ≡ true)
both_true true b e = (refl, e)
both_true false b e = (cc)

-- the first of a class stays the first
first_stays : (class : Class) (resource : List ℕ) (p : Profile) (ps : List Profile) → p.class ≡ class
    → All (IsEarlier p) ps → first_with p (find (is_covering class resource) ps) ≡ p
first_stays class resource p [] same h = refl
first_stays class resource p (q ∷ qs) same h = go (is_covering class resource q) refl (first_stays class resource p qs same (all_tail (IsEarlier p) q qs h))
  where
    go : (b : Bool) → is_covering class resource q ≡ b → first_with p (find (is_covering class resource) qs) ≡ p
        → first_with p (cond b (Some q) (find (is_covering class resource) qs)) ≡ p
    go true at later =
        let of_class = one_class q.class class (both_true (same_class q.class class) (covers_text q.pattern resource) at).0 in
        rw (before_once p q (all_head (IsEarlier p) q qs h (same ∙ sym of_class))) refl
    go false at later = later

pub find-decides : (class : Class) (resource : List ℕ) (profiles : List Profile) → AreMostSpecificFirst profiles
    → find (is_covering class resource) profiles ≡ deciding (of_class class profiles) resource
find-decides class resource [] h = refl
find-decides class resource (p ∷ ps) h =
    go (same_class p.class class) (covers_text p.pattern resource) refl refl
    (find-decides class resource ps (pairs_tail IsEarlier p ps h))
  where
    go : (b c : Bool) → same_class p.class class ≡ b → covers_text p.pattern resource ≡ c
        → find (is_covering class resource) ps ≡ deciding (of_class class ps) resource
        → cond (b && c) (Some p) (find (is_covering class resource) ps) ≡ first_of
        (filter (λ (q : Profile). covers_text q.pattern resource)
        (cond b (p ∷ of_class class ps) (of_class class ps)))
    go true true at covers later =
        rw (covers, ← later) (ap Some (sym (first_stays class resource p ps (one_class p.class class at) (pairs_head IsEarlier p ps h))))
    go true false at covers later = rw covers later
    go false c at covers later = later

-- pairs of a list, as those of what each is mapped to
pairs_map : {X Y : Type 0} (f : X → Y) (P : X → Type 0) (R : X → X → Type 0) (S : Y → Y → Type 0)
    → ((x y : X) → P x → P y → R x y → S (f x) (f y)) → (xs : List X) → All P xs → AllPairs R xs → AllPairs S (map f xs)
pairs_map f P R S join [] each pairs = λ i j d first second. absurd (omega arith)
pairs_map f P R S join (x ∷ xs) each pairs =
    AllPairs-cons S (f x) (map f xs)
    (All-map (S (f x)) f xs (λ k d less. join x (get_or xs k d) (all_head P x xs each) (all_tail P x xs each k d less) (pairs_head R x xs pairs k d less)))
    (pairs_map f P R S join xs (all_tail P x xs each) (pairs_tail R x xs pairs))

all_of_class : (class : Class) (profiles : List Profile) → All (λ (p : Profile). p.class ≡ class) (of_class class profiles)
all_of_class class profiles k d less = one_class _ class (filter_passes (λ (p : Profile). same_class p.class class) profiles k d less)

all_both : {X : Type 0} (P Q : X → Type 0) (xs : List X) → All P xs → All Q xs → All (λ x. P x × Q x) xs
all_both P Q xs a b k d less = (a k d less, b k d less)

-- the patterns that cover are in order
pub covering-in_order : (class : Class) (resource : List ℕ) (profiles : List Profile) → AreProfiles profiles
    → AreMostSpecificFirst profiles → AllPairs (λ p q. Before (tokens p) (tokens q))
    (covering_patterns class resource profiles)
covering-in_order class resource profiles are in_order =
    let covers : Profile → Bool = λ (p : Profile). covers_text p.pattern resource in
    let of : Profile → Bool = λ (p : Profile). same_class p.class class in
    let IsIn : Profile → Type 0 = λ (p : Profile). p.class ≡ class in
    let HasPattern : Profile → Type 0 = λ (p : Profile). IsPattern p.pattern in
    pairs_map (λ (p : Profile). p.pattern) (λ (p : Profile). (p.class ≡ class) × IsPattern p.pattern) IsEarlier (λ p q. Before (tokens p) (tokens q))
    (λ p q a b earlier. (before_is p q a.1 b.1).0 (earlier (a.0 ∙ sym b.0)))
    (covering resource (of_class class profiles))
    (all_both IsIn HasPattern (covering resource (of_class class profiles))
    (All-filter covers IsIn (of_class class profiles) (all_of_class class profiles))
    (All-filter covers HasPattern (of_class class profiles) (All-filter of HasPattern profiles are.patterns)))
    (AllPairs-filter IsEarlier covers (of_class class profiles) (AllPairs-filter IsEarlier of profiles in_order))
