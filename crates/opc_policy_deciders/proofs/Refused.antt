-- Pairs that decide nothing.
use Rattle.std.proofs.Common.{
  ◌≡◌,
  ◌⊎◌,
  inl,
  inr,
  ◌∙◌,
  ap,
  sym,
  refl,
  subst,
  ℕ,
  zero,
  suc,
  Bool,
  true,
  false,
  cond,
  ◌||◌,
  List,
  [],
  ◌∷◌,
  Option,
  Some,
  None,
  All,
  map,
  arith,
}
use Rattle.std.specs.Prelude.{find, if◌then◌else◌, not, unwrap_or}
use Rattle.std.specs.Cmp.Lexicographic.{nat_list_cmp_total, slice_cmp}
use Rattle.std.specs.List.{AllByRecursion, list_any, slice_get}
use Rattle.std.specs.Ordering.{is_lt, nat_cmp, ordering_reverse}
use Rattle.std.specs.Str.{bytes_eq}
use Rattle.std.specs.declared.cmp.Ordering.{Ordering}
use Rattle.std.specs.declared.cmp.Ordering.TheVariants.{Less, Equal, Greater}
use Rattle.std.proofs.lemmas.Option.{same_Some}
use Rattle.std.proofs.lemmas.Slice.Eq.{bytes_eq-Decides}
use Rattle.opc_names.specs.Authority.{same_class}
use Rattle.opc_names.specs.Order.{sort_key}
use Rattle.opc_names.specs.Patterns.{covers_text}
use Rattle.opc_names.specs.declared.class.Class.{Class}
use Rattle.opc_names.specs.declared.class.Class.TheVariants.{Console, Opercmds}
use Rattle.opc_names.proofs.Computed.{text_computes}
use Rattle.opc_policy_members.specs.declared.policy.Policy.{Policy}
use Rattle.opc_policy_members.specs.declared.profile.Profile.{Profile}
use Rattle.opc_policy_members.specs.Profiles.{AreMostSpecificFirst, is_before, of_class}
use Rattle.opc_policy_members.specs.Taken.{is_active}
use Rattle.opc_policy_deciders.specs.Decided.{ArePatternsOf, deciding_pattern, pattern_of}
use Rattle.opc_policy_witness.specs.Ends.{NoneInCommon}
use Rattle.opc_policy_deciders.specs.Pairs.{NoneDecidedByBoth, is_among}
use Rattle.opc_policy_deciders.proofs.Finding.{decides_first}

-- ---- the order of patterns

abbrev Earlier : (p q : List ℕ) → Type 0
Earlier p q = is_lt (slice_cmp nat_cmp (sort_key p) (sort_key q)) ≡ true

abbrev InOrder : List (List ℕ) → Type 0
InOrder [] = Unit {0}
InOrder (p ∷ ps) = AllByRecursion (Earlier p) ps × InOrder ps

abbrev IsEarlier : Profile → Profile → Type 0
IsEarlier p q = p.class ≡ q.class → is_before p q ≡ true

is_opercmds : (c : Class) → same_class c Opercmds ≡ true → c ≡ Opercmds
is_opercmds Console e = cc
is_opercmds Opercmds e = refl

all_after : (p : Profile) (ps : List Profile) → same_class p.class Opercmds ≡ true → All (IsEarlier p) ps
    → AllByRecursion (Earlier p.pattern) (map pattern_of (of_class Opercmds ps))
all_after p [] of earlier = tt
all_after p (q ∷ qs) of earlier =
    go (same_class q.class Opercmds) refl (all_after p qs of (λ k d less. earlier (suc k) d (omega arith)))
  where
    go : (b : Bool) → same_class q.class Opercmds ≡ b
        → AllByRecursion (Earlier p.pattern) (map pattern_of (of_class Opercmds qs))
        → AllByRecursion (Earlier p.pattern) (map pattern_of (cond b (q ∷ of_class Opercmds qs) (of_class Opercmds qs)))
    go true is later = (earlier 0 q (omega arith) (is_opercmds p.class of ∙ sym (is_opercmds q.class is)), later)
    go false is later = later

listed_in_order : (ps : List Profile) → AreMostSpecificFirst ps → InOrder (map pattern_of (of_class Opercmds ps))
listed_in_order [] h = tt
listed_in_order (p ∷ ps) h =
    go (same_class p.class Opercmds) refl
    (listed_in_order ps (λ i j d first second. h (suc i) (suc j) d (omega arith) (omega arith)))
  where
    go : (b : Bool) → same_class p.class Opercmds ≡ b → InOrder (map pattern_of (of_class Opercmds ps))
        → InOrder (map pattern_of (cond b (p ∷ of_class Opercmds ps) (of_class Opercmds ps)))
    go true is later = (all_after p ps is (λ k d less. h 0 (suc k) d (omega arith) (omega arith)), later)
    go false is later = later

in_order : (p : Policy) (patterns : List (List ℕ)) → ArePatternsOf p patterns → InOrder patterns
in_order p patterns are = subst (λ l. InOrder l) (sym are.all) (go (is_active p.active Opercmds))
  where
    go : (b : Bool) → InOrder (map pattern_of (if b then of_class Opercmds p.profiles else []))
    go true = listed_in_order p.profiles are.in_order
    go false = tt

not_both_less : (o : Ordering) → is_lt o ≡ true → is_lt (ordering_reverse o) ≡ true → ⊥
not_both_less Less one other = cc
not_both_less Equal one other = cc
not_both_less Greater one other = cc

not_both : (p q : List ℕ) → Earlier p q → Earlier q p → ⊥
not_both p q one other =
    not_both_less (slice_cmp nat_cmp (sort_key p) (sort_key q)) one
    (sym (ap is_lt (nat_list_cmp_total.antisymm (sort_key q) (sort_key p))) ∙ other)

-- ---- the first that covers

is_there : (p x : List ℕ) (xs : List (List ℕ)) → bytes_eq p x ≡ false → list_any (bytes_eq p) (x ∷ xs) ≡ true
    → list_any (bytes_eq p) xs ≡ true
is_there p x xs apart there = sym (ap (λ b. b || list_any (bytes_eq p) xs) apart) ∙ there

among_all : (P : List ℕ → Type 0) (p : List ℕ) (xs : List (List ℕ)) → AllByRecursion P xs → list_any (bytes_eq p) xs ≡ true → P p
among_all P p [] all there = cc
among_all P p (x ∷ xs) all there = go (bytes_eq p x) refl (among_all P p xs all.1)
  where
    go : (b : Bool) → bytes_eq p x ≡ b → (list_any (bytes_eq p) xs ≡ true → P p) → P p
    go true is later = subst P (sym ((bytes_eq-Decides p x).0 is)) all.0
    go false is later = later (is_there p x xs is there)

-- of a list in order the first that passes comes before each other that passes
first_is_earlier : (test : List ℕ → Bool) (ps : List (List ℕ)) (p q : List ℕ) → InOrder ps → find test ps ≡ Some p → test q ≡ true
    → list_any (bytes_eq q) ps ≡ true → (p ≡ q) ⊎ Earlier p q
first_is_earlier test [] p q order found passes there = cc
first_is_earlier test (x ∷ xs) p q order found passes there =
    go (test x) (bytes_eq q x) refl refl found (λ found' there'. first_is_earlier test xs p q order.1 found' passes there')
  where
    go : (b c : Bool) → test x ≡ b → bytes_eq q x ≡ c → cond b (Some x) (find test xs) ≡ Some p
        → (find test xs ≡ Some p → list_any (bytes_eq q) xs ≡ true → (p ≡ q) ⊎ Earlier p q) → (p ≡ q) ⊎ Earlier p q
    go true true is same found later = inl (sym (same_Some x p found) ∙ sym ((bytes_eq-Decides q x).0 same))
    go true false is same found later =
        inr (subst (λ y. Earlier y q) (same_Some x p found) (among_all (Earlier x) q xs order.0 (is_there q x xs same there)))
    go false true is same found later = let bad : true ≡ false = sym passes ∙ ap test ((bytes_eq-Decides q x).0 same) ∙ is in cc
    go false false is same found later = later found (is_there q x xs same there)

passes_found : (test : List ℕ → Bool) (ps : List (List ℕ)) (p : List ℕ) → find test ps ≡ Some p → test p ≡ true
passes_found test [] p found = cc
passes_found test (q ∷ ps) p found = go (test q) refl found (passes_found test ps p)
  where
    go : (b : Bool) → test q ≡ b → cond b (Some q) (find test ps) ≡ Some p → (find test ps ≡ Some p → test p ≡ true)
        → test p ≡ true
    go true is found later = sym (ap test (same_Some q p found)) ∙ is
    go false is found later = later found

none_found : (test : List ℕ → Bool) (ps : List (List ℕ)) (p : List ℕ) → find test ps ≡ None → list_any (bytes_eq p) ps ≡ true
    → test p ≡ true → ⊥
none_found test [] p found there passes = cc
none_found test (q ∷ ps) p found there passes =
    go (test q) (bytes_eq p q) refl refl found (λ found' there'. none_found test ps p found' there' passes)
  where
    go : (b c : Bool) → test q ≡ b → bytes_eq p q ≡ c → cond b (Some q) (find test ps) ≡ None
        → (find test ps ≡ None → list_any (bytes_eq p) ps ≡ true → ⊥) → ⊥
    go true c is same found later = cc
    go false true is same found later = let bad : true ≡ false = sym passes ∙ ap test ((bytes_eq-Decides p q).0 same) ∙ is in cc
    go false false is same found later = later found (is_there p q ps same there)

-- ---- what decides

abbrev covering : (r : List ℕ) → List ℕ → Bool
covering r q = covers_text q r

first_of : (one : Policy) (patterns : List (List ℕ)) (r : List ℕ) → ArePatternsOf one patterns
    → deciding_pattern one r ≡ find (covering r) patterns
first_of one patterns r are = decides_first one r are.in_order ∙ sym (ap (find (covering r)) are.all)

-- patterns that are on both sides
pub both_stand : (p q : List ℕ) (one two : Policy) (patterns others : List (List ℕ)) → ArePatternsOf one patterns → ArePatternsOf two others
    → is_among others p ≡ true → is_among patterns q ≡ true → bytes_eq p q ≡ false → NoneDecidedByBoth one two (Some p) (Some q)
both_stand p q one two patterns others are be stands too apart form r d =
    let first : find (covering r) patterns ≡ Some p = sym (first_of one patterns r are) ∙ d.by_one in
    let second : find (covering r) others ≡ Some q = sym (first_of two others r be) ∙ d.by_other in
    let covers = passes_found (covering r) patterns p first in
    let covered = passes_found (covering r) others q second in
    go (first_is_earlier (covering r) patterns p q (in_order one patterns are) first covered too)
    (first_is_earlier (covering r) others q p (in_order two others be) second covers stands)
  where
    unlike : p ≡ q → ⊥
    unlike same = let bad : true ≡ false = sym ((bytes_eq-Decides p q).1 same) ∙ apart in cc

    go : (p ≡ q) ⊎ Earlier p q → (q ≡ p) ⊎ Earlier q p → ⊥
    go (inl same) other = unlike same
    go (inr less) (inl same) = unlike (sym same)
    go (inr less) (inr more) = not_both p q less more

-- patterns that have nothing in common
pub far_apart : (p q : List ℕ) (one two : Policy) (patterns others : List (List ℕ)) → ArePatternsOf one patterns → ArePatternsOf two others
    → NoneInCommon p q → NoneDecidedByBoth one two (Some p) (Some q)
far_apart p q one two patterns others are be none form r d =
    none r ((text_computes (covers_text p r) p r refl).0 (passes_found (covering r) patterns p (sym (first_of one patterns r are) ∙ d.by_one)))
    ((text_computes (covers_text q r) q r refl).0 (passes_found (covering r) others q (sym (first_of two others r be) ∙ d.by_other)))

-- a pattern that is on both sides decides where none does on the other
pub stands_there : (p : List ℕ) (one two : Policy) (patterns others : List (List ℕ)) → ArePatternsOf one patterns → ArePatternsOf two others
    → is_among others p ≡ true → NoneDecidedByBoth one two (Some p) None
stands_there p one two patterns others are be stands form r d =
    none_found (covering r) others p (sym (first_of two others r be) ∙ d.by_other) stands
    (passes_found (covering r) patterns p (sym (first_of one patterns r are) ∙ d.by_one))

pub stood_there : (q : List ℕ) (one two : Policy) (patterns others : List (List ℕ)) → ArePatternsOf one patterns → ArePatternsOf two others
    → is_among patterns q ≡ true → NoneDecidedByBoth one two None (Some q)
stood_there q one two patterns others are be stands form r d =
    none_found (covering r) patterns q (sym (first_of one patterns r are) ∙ d.by_one) stands
    (passes_found (covering r) others q (sym (first_of two others r be) ∙ d.by_other))

-- ---- at their places

pub stands_so : (others patterns : List (List ℕ)) (stand : List Bool) (at : ℕ) (p : List ℕ) → stand ≡ map (is_among others) patterns
    → slice_get patterns at ≡ Some p → unwrap_or (slice_get stand at) true ≡ is_among others p
stands_so others patterns stand at p is found = ap (λ l. unwrap_or (slice_get l at) true) is ∙ there patterns at found
  where
    there : (ps : List (List ℕ)) (i : ℕ) → slice_get ps i ≡ Some p → unwrap_or (slice_get (map (is_among others) ps) i) true ≡ is_among others p
    there [] i at = cc
    there (q ∷ ps) zero at = ap (is_among others) (same_Some q p at)
    there (q ∷ ps) (suc i) at = there ps i at

pub valid_at : (P : List ℕ → Type 0) (ps : List (List ℕ)) (i : ℕ) (p : List ℕ) → All P ps → slice_get ps i ≡ Some p → P p
valid_at P [] i p all at = cc
valid_at P (q ∷ ps) zero p all at = subst P (same_Some q p at) (all 0 q (omega arith))
valid_at P (q ∷ ps) (suc i) p all at = valid_at P ps i p (λ k d less. all (suc k) d (omega (arith, less))) at

pub not_false : (b : Bool) → not b ≡ false → b ≡ true
not_false true e = refl
not_false false e = cc

pub moved : (one two : Policy) (x x' y y' : Option (List ℕ)) → x ≡ x' → y ≡ y' → NoneDecidedByBoth one two x' y' → NoneDecidedByBoth one two x y
moved one two x x' y y' same other none form r d =
    none form r (record { of_form = d.of_form; by_one = d.by_one ∙ same; by_other = d.by_other ∙ other })
