-- The profile at a place decides what its pattern covers and none before it does.
use Rattle.std.proofs.Common.{
  ◌≡◌,
  ◌≤◌,
  ◌∙◌,
  ap,
  sym,
  refl,
  ℕ,
  zero,
  suc,
  ◌<◌,
  Bool,
  true,
  false,
  ◌&&◌,
  ◌||◌,
  cond,
  List,
  [],
  ◌∷◌,
  Option,
  Some,
  Result,
  Ok,
  Err,
  All,
  drop,
  get_or,
  length,
  map,
  take,
  subst,
  arith,
}
use Rattle.std.specs.Prelude.{find, option_map, if◌then◌else◌, IfOk, ◌↔◌}
use Rattle.std.specs.Cmp.Lexicographic.{nat_list_cmp_total, slice_cmp}
use Rattle.std.specs.List.{AllPairs, list_all, list_any, slice_get}
use Rattle.std.specs.Ordering.{is_lt, nat_cmp}
use Rattle.std.specs.declared.cmp.Ordering.{Ordering}
use Rattle.std.proofs.lemmas.Cmp.{tied_itself}
use Rattle.std.proofs.lemmas.List.Elements.{All-filter, All-map}
use Rattle.std.proofs.lemmas.Option.{same_Some}
use Rattle.opc_names.specs.Authority.{same_class}
use Rattle.opc_names.specs.Names.{IsPattern}
use Rattle.opc_names.specs.Order.{sort_key}
use Rattle.opc_names.specs.Patterns.{covers_text}
use Rattle.opc_names.specs.declared.class.Class.{Class}
use Rattle.opc_names.specs.declared.class.Class.TheVariants.{Console, Opercmds}
use Rattle.opc_policy.proofs.InOrder.{find-decides}
use Rattle.opc_policy.specs.Deciding.{deciding}
use Rattle.opc_policy.specs.Explained.{is_covering}
use Rattle.opc_policy_members.specs.declared.policy.Policy.{Policy}
use Rattle.opc_policy_members.specs.declared.profile.Profile.{Profile}
use Rattle.opc_policy_members.specs.Profiles.{AreMostSpecificFirst, AreProfiles, is_before, of_class}
use Rattle.opc_policy_members.specs.Taken.{is_active}
use Rattle.opc_policy_deciders.specs.Between.{IsBetween}
use Rattle.opc_policy_deciders.specs.Decided.{ArePatternsOf, AreShortest, IsDecided, deciding_pattern, pattern_of, patterns_of}
use Rattle.opc_policy_deciders.specs.Forms.{AskedForm, forms}
use Rattle.opc_policy_deciders.specs.Near.{AreNear, ComeBefore, IsEarlier as EarlierPattern}
use Rattle.opc_policy_deciders.proofs.Between.{both_true, none_true}
use Rattle.opc_policy_deciders.proofs.Covering.{near_so}
use Rattle.opc_policy_deciders.proofs.Listing.{all_same}

-- ---- no pattern stands twice

abbrev pub Apart : List (List ℕ) → Type 0
Apart [] = Unit {0}
Apart (p ∷ ps) = ((i : ℕ) → slice_get ps i ≡ Some p → ⊥) × Apart ps

-- the class of the profiles that are listed
abbrev listed : List Profile → List (List ℕ)
listed profiles = map pattern_of (of_class Opercmds profiles)

abbrev IsEarlier : Profile → Profile → Type 0
IsEarlier p q = p.class ≡ q.class → is_before p q ≡ true

all_tail : {X : Type 0} (P : X → Type 0) (x : X) (xs : List X) → All P (x ∷ xs) → All P xs
all_tail P x xs h k d less = h (suc k) d (omega arith)

pairs_tail : {X : Type 0} (R : X → X → Type 0) (x : X) (xs : List X) → AllPairs R (x ∷ xs) → AllPairs R xs
pairs_tail R x xs h i j d first second = h (suc i) (suc j) d (omega arith) (omega arith)

pairs_head : {X : Type 0} (R : X → X → Type 0) (x : X) (xs : List X) → AllPairs R (x ∷ xs) → All (R x) xs
pairs_head R x xs h k d less = h 0 (suc k) d (omega arith) (omega arith)

all_cons : {X : Type 0} (P : X → Type 0) (x : X) (xs : List X) → P x → All P xs → All P (x ∷ xs)
all_cons P x xs first rest zero d less = first
all_cons P x xs first rest (suc k) d less = rest k d (omega (arith, less))

pairs_cons : {X : Type 0} (R : X → X → Type 0) (x : X) (xs : List X) → All (R x) xs → AllPairs R xs → AllPairs R (x ∷ xs)
pairs_cons R x xs first rest zero zero d less high = absurd (omega (arith, less))
pairs_cons R x xs first rest zero (suc j) d less high = first j d (omega (arith, high))
pairs_cons R x xs first rest (suc i) zero d less high = absurd (omega (arith, less))
pairs_cons R x xs first rest (suc i) (suc j) d less high = rest i j d (omega (arith, less)) (omega (arith, high))

is_opercmds : (c : Class) → same_class c Opercmds ≡ true → c ≡ Opercmds
is_opercmds Console e = cc
is_opercmds Opercmds e = refl

-- of two profiles of one pattern none is before the other
abbrev key_order : List ℕ → List ℕ → Ordering
key_order = slice_cmp nat_cmp

not_below_itself : (k : List ℕ) → is_lt (key_order k k) ≡ false
not_below_itself k = ap is_lt (tied_itself nat_list_cmp_total k)

not_before : (p q : Profile) → q.pattern ≡ p.pattern → is_before p q ≡ false
not_before p q same = ap (λ (t : List ℕ). is_lt (key_order (sort_key p.pattern) (sort_key t))) same ∙ not_below_itself (sort_key p.pattern)

never_again : (p : Profile) (ps : List Profile) → same_class p.class Opercmds ≡ true → All (IsEarlier p) ps → (i : ℕ)
    → slice_get (listed ps) i ≡ Some p.pattern → ⊥
never_again p [] of earlier i at = cc
never_again p (q ∷ qs) of earlier i at =
    go (same_class q.class Opercmds) refl i at (λ j. never_again p qs of (all_tail (IsEarlier p) q qs earlier) j)
  where
    go : (b : Bool) → same_class q.class Opercmds ≡ b → (i : ℕ)
        → slice_get (map pattern_of (cond b (q ∷ of_class Opercmds qs) (of_class Opercmds qs))) i ≡ Some p.pattern
        → ((j : ℕ) → slice_get (listed qs) j ≡ Some p.pattern → ⊥) → ⊥
    go true is zero at later =
        let first : is_before p q ≡ true = earlier 0 q (omega arith) (is_opercmds p.class of ∙ sym (is_opercmds q.class is)) in
        let same : q.pattern ≡ p.pattern = same_Some _ _ at in
        let bad : true ≡ false = sym first ∙ not_before p q same in
        cc
    go true is (suc i) at later = later i at
    go false is i at later = later i at

apart : (profiles : List Profile) → AreMostSpecificFirst profiles → Apart (listed profiles)
apart [] h = tt
apart (p ∷ ps) h = go (same_class p.class Opercmds) refl (apart ps (pairs_tail IsEarlier p ps h))
  where
    go : (b : Bool) → same_class p.class Opercmds ≡ b → Apart (listed ps)
        → Apart (map pattern_of (cond b (p ∷ of_class Opercmds ps) (of_class Opercmds ps)))
    go true is rest = (never_again p ps is (pairs_head IsEarlier p ps h), rest)
    go false is rest = rest

-- ---- the patterns come in the order of the search

earlier_all : (p : Profile) (ps : List Profile) → same_class p.class Opercmds ≡ true → All (IsEarlier p) ps
    → All (EarlierPattern p.pattern) (listed ps)
earlier_all p [] of earlier = λ k d less. absurd (omega (arith, less))
earlier_all p (q ∷ qs) of earlier = go (same_class q.class Opercmds) refl (earlier_all p qs of (all_tail (IsEarlier p) q qs earlier))
  where
    go : (b : Bool) → same_class q.class Opercmds ≡ b → All (EarlierPattern p.pattern) (listed qs)
        → All (EarlierPattern p.pattern) (map pattern_of (cond b (q ∷ of_class Opercmds qs) (of_class Opercmds qs)))
    go true is rest =
        all_cons (EarlierPattern p.pattern) q.pattern (listed qs) (earlier 0 q (omega arith) (is_opercmds p.class of ∙ sym (is_opercmds q.class is))) rest
    go false is rest = rest

ordered : (profiles : List Profile) → AreMostSpecificFirst profiles → AllPairs EarlierPattern (listed profiles)
ordered [] h = λ i j d less high. absurd (omega (arith, high))
ordered (p ∷ ps) h = go (same_class p.class Opercmds) refl (ordered ps (pairs_tail IsEarlier p ps h))
  where
    go : (b : Bool) → same_class p.class Opercmds ≡ b → AllPairs EarlierPattern (listed ps)
        → AllPairs EarlierPattern (map pattern_of (cond b (p ∷ of_class Opercmds ps) (of_class Opercmds ps)))
    go true is rest = pairs_cons EarlierPattern p.pattern (listed ps) (earlier_all p ps is (pairs_head IsEarlier p ps h)) rest
    go false is rest = rest

pub all_ordered : (p : Policy) → AreMostSpecificFirst p.profiles → AllPairs EarlierPattern (patterns_of p)
all_ordered p h = go (is_active p.active Opercmds)
  where
    go : (b : Bool) → AllPairs EarlierPattern (map pattern_of (if b then of_class Opercmds p.profiles else []))
    go true = ordered p.profiles h
    go false = λ i j d less high. absurd (omega (arith, high))

-- ---- the first pattern that covers

first_pattern : (r : List ℕ) (profiles : List Profile) → option_map pattern_of (find (is_covering Opercmds r) profiles)
    ≡ find (λ (q : List ℕ). covers_text q r) (listed profiles)
first_pattern r [] = refl
first_pattern r (p ∷ ps) = go (same_class p.class Opercmds) (covers_text p.pattern r) refl refl (first_pattern r ps)
  where
    go : (b c : Bool) → same_class p.class Opercmds ≡ b → covers_text p.pattern r ≡ c
        → option_map pattern_of (find (is_covering Opercmds r) ps) ≡ find (λ (q : List ℕ). covers_text q r) (listed ps)
        → option_map pattern_of (cond (b && c) (Some p) (find (is_covering Opercmds r) ps))
        ≡ find (λ (q : List ℕ). covers_text q r) (map pattern_of (cond b (p ∷ of_class Opercmds ps) (of_class Opercmds ps)))
    go true true of covers rest = rw covers refl
    go true false of covers rest = rw covers rest
    go false c of covers rest = rest

pub decides_first : (p : Policy) (r : List ℕ) → AreMostSpecificFirst p.profiles
    → deciding_pattern p r ≡ find (λ (q : List ℕ). covers_text q r) (patterns_of p)
decides_first p r h = go (is_active p.active Opercmds)
  where
    go : (b : Bool) → option_map pattern_of (deciding (if b then of_class Opercmds p.profiles else []) r)
        ≡ find (λ (q : List ℕ). covers_text q r) (map pattern_of (if b then of_class Opercmds p.profiles else []))
    go true = ap (option_map pattern_of) (sym (find-decides Opercmds r p.profiles h)) ∙ first_pattern r p.profiles
    go false = refl

pub all_apart : (p : Policy) → AreMostSpecificFirst p.profiles → Apart (patterns_of p)
all_apart p h = go (is_active p.active Opercmds)
  where
    go : (b : Bool) → Apart (map pattern_of (if b then of_class Opercmds p.profiles else []))
    go true = apart p.profiles h
    go false = tt

-- ---- and its place

passes : (test : List ℕ → Bool) (ps : List (List ℕ)) (p : List ℕ) → find test ps ≡ Some p → test p ≡ true
passes test [] p found = cc
passes test (q ∷ ps) p found = go (test q) refl found (passes test ps p)
  where
    go : (b : Bool) → test q ≡ b → cond b (Some q) (find test ps) ≡ Some p → (find test ps ≡ Some p → test p ≡ true)
        → test p ≡ true
    go true is found later = sym (ap test (same_Some _ _ found)) ∙ is
    go false is found later = later found

module _ (test : List ℕ → Bool) where
  found_there : (ps : List (List ℕ)) (at : ℕ) → list_all test (take 1 (drop at ps)) ≡ true → list_any test (take at ps) ≡ false
      → find test ps ≡ slice_get ps at
  found_there [] at covered uncovered = refl
  found_there (p ∷ ps) zero covered uncovered = rw (both_true (test p) true covered).0 refl
  found_there (p ∷ ps) (suc at) covered uncovered =
      let parts = none_true (test p) (list_any test (take at ps)) uncovered in
      rw parts.0 (found_there ps at covered parts.1)

  none_there : (at : ℕ) → (list_all test (take 1 (drop at [])) ≡ true) × (list_any test (take at []) ≡ false)
  none_there zero = (refl, refl)
  none_there (suc at) = (refl, refl)

  there_found : (ps : List (List ℕ)) (at : ℕ) → Apart ps → find test ps ≡ slice_get ps at
      → (list_all test (take 1 (drop at ps)) ≡ true) × (list_any test (take at ps) ≡ false)
  there_found [] at single found = none_there at
  there_found (p ∷ ps) zero single found = go (test p) refl found
    where
      go : (b : Bool) → test p ≡ b → cond b (Some p) (find test ps) ≡ Some p
          → ((test p && true) ≡ true) × (false ≡ false)
      go true is found = (ap (λ b. b && true) is, refl)
      go false is found = let bad : true ≡ false = sym (passes test ps p found) ∙ is in cc
  there_found (p ∷ ps) (suc at) single found = go (test p) refl found (there_found ps at single.1)
    where
      go : (b : Bool) → test p ≡ b → cond b (Some p) (find test ps) ≡ slice_get ps at
          → (find test ps ≡ slice_get ps at → (list_all test (take 1 (drop at ps)) ≡ true) × (list_any test (take at ps) ≡ false))
          → (list_all test (take 1 (drop at ps)) ≡ true) × ((test p || list_any test (take at ps)) ≡ false)
      go true is found later = absurd (single.0 at (sym found))
      go false is found later =
          let more = later found in
          (more.0, ap (λ b. b || list_any test (take at ps)) is ∙ more.1)

pub decided_between : (p : Policy) (patterns own before : List (List ℕ)) (at : ℕ) → ArePatternsOf p patterns
    → own ≡ take 1 (drop at patterns) → before ≡ take at patterns → (form : AskedForm) (r : List ℕ)
    → IsBetween own before form r ↔ IsDecided p (slice_get patterns at) form r
decided_between p patterns own before at are is_own is_before form r = (
  λ b. record {
    of_form = b.of_form;
    decided = by_pattern ∙ found_there covers patterns at (sym (ap (list_all covers) is_own) ∙ b.covered) (sym (ap (list_any covers) is_before) ∙ b.uncovered);
  },
  λ d. let parts = there_found covers patterns at single (sym by_pattern ∙ d.decided) in
      record {
        of_form = d.of_form;
        covered = ap (list_all covers) is_own ∙ parts.0;
        uncovered = ap (list_any covers) is_before ∙ parts.1;
      },
)
  where
    covers : List ℕ → Bool
    covers = λ (q : List ℕ). covers_text q r

    by_pattern : deciding_pattern p r ≡ find covers patterns
    by_pattern = decides_first p r are.in_order ∙ sym (ap (find covers) are.all)

    single : Apart patterns
    single = subst (λ l. Apart l) (sym are.all) (all_apart p are.in_order)

all_decided : (p : Policy) (patterns own before : List (List ℕ)) (at : ℕ) (forms : List AskedForm) (list : List (Option (List ℕ)))
    → ArePatternsOf p patterns → own ≡ take 1 (drop at patterns) → before ≡ take at patterns
    → AreShortest (IsBetween own before) forms list → AreShortest (IsDecided p (slice_get patterns at)) forms list
all_decided p patterns own before at forms list are is_own is_before found =
    all_same (IsBetween own before) (IsDecided p (slice_get patterns at)) (decided_between p patterns own before at are is_own is_before) forms list found

-- ---- in the code

pub then_ok : {T E : Type 0} (result : Result T E) (P Q : T → Type 0) → IfOk result P → ((x : T) → P x → Q x) → IfOk result Q
then_ok (Ok x) P Q h f = f x h
then_ok (Err e) P Q h f = tt

pub near_is_enough : {V E : Type 0} (items : V → List (Option (List ℕ))) (p : List ℕ) (near before : List (List ℕ)) (result : Result V E)
    → AreNear p near before → IfOk result (λ v. AreShortest (IsBetween (p ∷ []) near) forms (items v))
    → IfOk result (λ v. AreShortest (IsBetween (p ∷ []) before) forms (items v))
near_is_enough items p near before result as_many found =
    then_ok result (λ v. AreShortest (IsBetween (p ∷ []) near) forms (items v)) (λ v. AreShortest (IsBetween (p ∷ []) before) forms (items v)) found
    (λ v. near_so p near before forms (items v) as_many)

all_later : (P : List ℕ → Type 0) (x : List ℕ) (xs : List (List ℕ)) → All P (x ∷ xs) → All P xs
all_later P x xs h k d less = h (suc k) d (omega (arith, less))

pub all_before : (P : List ℕ → Type 0) (xs : List (List ℕ)) (at : ℕ) → All P xs → All P (take at xs)
all_before P [] zero all k d less = absurd (omega (arith, less))
all_before P [] (suc at) all k d less = absurd (omega (arith, less))
all_before P (x ∷ xs) zero all k d less = absurd (omega (arith, less))
all_before P (x ∷ xs) (suc at) all zero d less = all 0 d (omega arith)
all_before P (x ∷ xs) (suc at) all (suc k) d less = all_before P xs at (all_later P x xs all) k d (omega (arith, less))

left : (P : List ℕ → Type 0) (xs : List (List ℕ)) (at : ℕ) → All P xs → All P (drop at xs)
left P [] zero all k d less = absurd (omega (arith, less))
left P [] (suc at) all k d less = absurd (omega (arith, less))
left P (x ∷ xs) zero all k d less = all k d less
left P (x ∷ xs) (suc at) all k d less = left P xs at (all_later P x xs all) k d less

pub first_left : (P : List ℕ → Type 0) (xs rest : List (List ℕ)) (at : ℕ) (x : List ℕ) → All P xs → rest ≡ drop at xs
    → 1 ≤ length rest → x ≡ get_or rest 0 x → P x
first_left P xs rest at x all is_rest some is =
    subst P (sym is) (subst (λ l. All P l) (sym is_rest) (left P xs at all) 0 x (omega (arith, some)))

those_before : (ps : List (List ℕ)) (at : ℕ) (x : List ℕ) → AllPairs EarlierPattern ps → 1 ≤ length (drop at ps)
    → x ≡ get_or (drop at ps) 0 x → ComeBefore (take at ps) x
those_before [] zero x up some is = absurd (omega (arith, some))
those_before [] (suc at) x up some is = absurd (omega (arith, some))
those_before (y ∷ ps) zero x up some is =
    record { in_order = λ i j d less high. absurd (omega (arith, high)); before = λ k d less. absurd (omega (arith, less)) }
those_before (y ∷ ps) (suc at) x up some is =
    let rest = those_before ps at x (pairs_tail EarlierPattern y ps up) some is in
    let first : All (EarlierPattern y) ps = pairs_head EarlierPattern y ps up in
    record {
      in_order = pairs_cons EarlierPattern y (take at ps) (all_before (EarlierPattern y) ps at first) rest.in_order;
      before = all_cons (λ q. EarlierPattern q x) y (take at ps) (first_left (EarlierPattern y) ps (drop at ps) at x first refl some is) rest.before;
    }

-- the pattern at a place, and those before it
pub come_before : (p : Policy) (patterns before rest : List (List ℕ)) (at : ℕ) (x : List ℕ) → ArePatternsOf p patterns
    → before ≡ take at patterns → rest ≡ drop at patterns → 1 ≤ length rest → x ≡ get_or rest 0 x → ComeBefore before x
come_before p patterns before rest at x are is_before is_rest some is =
    subst (λ l. ComeBefore l x) (sym is_before)
    (those_before patterns at x (subst (λ l. AllPairs EarlierPattern l) (sym are.all) (all_ordered p are.in_order))
    (subst (λ l. 1 ≤ length l) is_rest some) (is ∙ ap (λ l. get_or l 0 x) is_rest))

own_first : (rest : List (List ℕ)) (x : List ℕ) → 1 ≤ length rest → x ≡ get_or rest 0 x → x ∷ [] ≡ take 1 rest
own_first [] x some is = absurd (omega (arith, some))
own_first (y ∷ rest) x some is = ap (λ z. z ∷ []) is

own_none : (rest : List (List ℕ)) → length rest < 1 → [] ≡ take 1 rest
own_none [] none = refl
own_none (x ∷ rest) none = absurd (omega (arith, none))

module _ {V E : Type 0} (items : V → List (Option (List ℕ))) (p : Policy) (patterns before rest : List (List ℕ)) (at : ℕ)
    (result : Result V E) (are : ArePatternsOf p patterns) (is_before : before ≡ take at patterns) (is_rest : rest ≡ drop at patterns) where
  decided_there : (own : List (List ℕ)) → own ≡ take 1 rest → IfOk result (λ v. AreShortest (IsBetween own before) forms (items v))
      → IfOk result (λ v. AreShortest (IsDecided p (slice_get patterns at)) forms (items v))
  decided_there own is_own found =
      then_ok result (λ v. AreShortest (IsBetween own before) forms (items v))
      (λ v. AreShortest (IsDecided p (slice_get patterns at)) forms (items v)) found
      (λ v. all_decided p patterns own before at forms (items v) are (is_own ∙ ap (take 1) is_rest) is_before)

  pub decided_by_one : (x : List ℕ) → 1 ≤ length rest → x ≡ get_or rest 0 x
      → IfOk result (λ v. AreShortest (IsBetween (x ∷ []) before) forms (items v))
      → IfOk result (λ v. AreShortest (IsDecided p (slice_get patterns at)) forms (items v))
  decided_by_one x some is found = decided_there (x ∷ []) (own_first rest x some is) found

  pub decided_by_none : length rest < 1 → IfOk result (λ v. AreShortest (IsBetween [] before) forms (items v))
      → IfOk result (λ v. AreShortest (IsDecided p (slice_get patterns at)) forms (items v))
  decided_by_none none found = decided_there [] (own_none rest none) found

pub valid_patterns : (profiles : List Profile) → AreProfiles profiles → All IsPattern (map pattern_of (of_class Opercmds profiles))
valid_patterns profiles are =
    All-map IsPattern pattern_of (of_class Opercmds profiles)
    (All-filter (λ (p : Profile). same_class p.class Opercmds) (λ (p : Profile). IsPattern p.pattern) profiles are.patterns)

none_valid : All IsPattern []
none_valid k d less = absurd (omega (arith, less))

-- the patterns in effect, if the class is active, and if it is not
pub are_active : (p : Policy) (patterns : List (List ℕ)) → AreProfiles p.profiles → AreMostSpecificFirst p.profiles
    → is_active p.active Opercmds ≡ true → patterns ≡ map pattern_of (of_class Opercmds p.profiles) → ArePatternsOf p patterns
are_active p patterns are in_order active is = record {
  all = is ∙ sym (ap (λ b. map pattern_of (if b then of_class Opercmds p.profiles else [])) active);
  in_order = in_order;
  valid = subst (λ l. All IsPattern l) (sym is) (valid_patterns p.profiles are);
}

pub are_inactive : (p : Policy) (patterns : List (List ℕ)) → AreMostSpecificFirst p.profiles
    → is_active p.active Opercmds ≡ false → patterns ≡ [] → ArePatternsOf p patterns
are_inactive p patterns in_order inactive is = record {
  all = is ∙ sym (ap (λ b. map pattern_of (if b then of_class Opercmds p.profiles else [])) inactive);
  in_order = in_order;
  valid = subst (λ l. All IsPattern l) (sym is) none_valid;
}
