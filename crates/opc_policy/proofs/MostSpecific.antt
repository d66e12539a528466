-- The profile that is computed is the most specific one, and there is no other.
use Rattle.std.proofs.Common.{
  ◌≡◌,
  ◌≢◌,
  ℕ,
  ◌<◌,
  Bool,
  true,
  false,
  cond,
  List,
  [],
  ◌∷◌,
  length,
  filter,
  get_or,
  zero,
  suc,
  Option,
  Some,
  None,
  refl,
  sym,
  ap,
  ◌∙◌,
  subst,
  ◌⊎◌,
  inl,
  inr,
  ⊎_elim,
  arith,
  Contains,
  ◌↔◌,
  Decides,
  map,
}
use Rattle.std.specs.Cmp.{IsStrictWeakOrder}
use Rattle.std.specs.Cmp.Lexicographic.{slice_cmp, nat_list_cmp_total}
use Rattle.std.specs.List.{AllPairs}
use Rattle.std.specs.Ordering.{nat_cmp, is_lt}
use Rattle.std.specs.declared.cmp.Ordering.{Ordering}
use Rattle.std.specs.declared.cmp.Ordering.TheVariants.{Less, Equal, Greater}
use Rattle.std.specs.Str.{bytes_eq}
use Rattle.std.proofs.lemmas.Bool.{false≢true, cases_order}
use Rattle.std.proofs.lemmas.List.{get_or_default}
use Rattle.std.proofs.lemmas.List.Elements.{
  All-filter,
  All-contains,
  All-contains_itself,
  filter_passes,
  Contains-append_right,
  Contains-append_cases,
  Contains-push_cases,
}
use Rattle.std.proofs.lemmas.List.Kept.{AllPairs-filter}
use Rattle.std.proofs.lemmas.List.MinMax.{ranks_by}
use Rattle.std.proofs.lemmas.Slice.Eq.{bytes_eq-Decides}
use Rattle.opc_names.specs.declared.class.Class.{Class}
use Rattle.opc_names.specs.Authority.{same_class}
use Rattle.opc_names.specs.Names.{IsPattern}
use Rattle.opc_names.specs.Order.{sort_key}
use Rattle.opc_names.specs.Patterns.{tokens, CoversText, covers_text}
use Rattle.opc_names.specs.Names.{qualifiers}
use Rattle.opc_names.proofs.Computed.{covers_computes}
use Rattle.opc_names.proofs.Keys.{keys_are_in_order}
use Rattle.opc_names.proofs.Orders.{one_is_before}
use Rattle.opc_policy_members.proofs.Classes.{same_class_is}
use Rattle.opc_policy_members.specs.Profiles.{AreProfiles, of_class, is_before}
use Rattle.opc_policy.specs.Deciding.{IsBefore, IsDeciding, covering, first_with, first_of, deciding}
use Rattle.opc_policy.specs.Laws.{DecidingIsMostSpecific, OneIsDeciding}
use Rattle.opc_policy_members.specs.declared.profile.Profile.{Profile}

-- what a filter keeps
pub of_filter : {X : Type 0} (p : X → Bool) (xs : List X) (x : X) → Contains (filter p xs) x → Contains xs x × (p x ≡ true)
of_filter p xs x h = (
  All-contains (Contains xs) (filter p xs) x (All-filter p (Contains xs) xs (All-contains_itself xs)) h,
  All-contains (λ y. p y ≡ true) (filter p xs) x (filter_passes p xs) h,
)

pub to_filter : {X : Type 0} (p : X → Bool) (xs : List X) (x : X) → Contains xs x → p x ≡ true → Contains (filter p xs) x
to_filter p xs x h e = kept p xs x h.0 h.1 h.2 e
  where
    kept : {X : Type 0} (p : X → Bool) (xs : List X) (x : X) (k : ℕ) → k < length xs → get_or xs k x ≡ x → p x ≡ true → Contains (filter p xs) x
    kept p [] x k l g e = absurd (omega (arith, l))
    kept p (y ∷ ys) x zero l g e = rw (ap p g ∙ e) (0, omega arith, g)
    kept p (y ∷ ys) x (suc k) l g e =
        let rest = kept p ys x k (omega (arith, l)) g e in
        elim (p y) as (λ b. Contains (cond b (y ∷ filter p ys) (filter p ys)) x) [ true ↦ (suc rest.0, omega (arith, rest.1), rest.2) | false ↦ rest ]

-- a member of a list is its first element or one of the rest
member_cases : {X : Type 0} (x : X) (xs : List X) (y : X) → Contains (x ∷ xs) y → (x ≡ y) ⊎ Contains xs y
member_cases x xs y h =
    ⊎_elim (λ one. ⊎_elim (λ none. absurd (omega (arith, none.1))) inl (Contains-push_cases [] x y one)) inr
    (Contains-append_cases (x ∷ []) xs y h)

no_member : {X : Type 0} (y : X) → Contains [] y → ⊥
no_member y h = omega (arith, h.1)

-- the order of the profiles by their keys
pub ordered : IsStrictWeakOrder is_before
ordered = ranks_by nat_list_cmp_total (λ (p : Profile). sort_key p.pattern)

pub not_before_itself : (p : Profile) → is_before p p ≡ false
not_before_itself p = go (is_before p p) refl
  where
    go : (b : Bool) → is_before p p ≡ b → b ≡ false
    go true e = sym e ∙ ordered.one_way p p e
    go false e = refl

-- the first of some is one of them, and none of them is before it
unfoldable pub FirstIs : List Profile → Option Profile → Type 0
FirstIs profiles None = profiles ≡ []
FirstIs profiles (Some d) = Contains profiles d × ((q : Profile) → Contains profiles q → is_before q d ≡ false)

first_among : (p : Profile) (profiles : List Profile) (o : Option Profile) → FirstIs profiles o → FirstIs (p ∷ profiles) (Some (first_with p o))
unfolding FirstIs
first_among p profiles None h = (
  (0, omega arith, refl),
  λ q m. ⊎_elim (λ e. subst (λ x. is_before x p ≡ false) e (not_before_itself p))
      (λ n. absurd (no_member q (rw h at n))) (member_cases p profiles q m),
)
first_among p profiles (Some d) h = go (is_before d p) refl
  where
    go : (b : Bool) → is_before d p ≡ b → FirstIs (p ∷ profiles) (Some (cond b d p))
    go true e = (
      Contains-append_right (p ∷ []) profiles d h.0,
      λ q m. ⊎_elim (λ s. subst (λ x. is_before x d ≡ false) s (ordered.one_way d p e)) (λ n. h.1 q n)
          (member_cases p profiles q m),
    )
    go false e = (
      (0, omega arith, refl),
      λ q m. ⊎_elim (λ s. subst (λ x. is_before x p ≡ false) s (not_before_itself p))
          (λ n. ordered.chain q d p (h.1 q n) e) (member_cases p profiles q m),
    )

pub first_is : (profiles : List Profile) → FirstIs profiles (first_of profiles)
unfolding FirstIs
first_is [] = refl
first_is (p ∷ profiles) = first_among p profiles (first_of profiles) (first_is profiles)

is_lt_less : (o : Ordering) → (is_lt o ≡ true) ↔ (o ≡ Less)
is_lt_less Less = (λ _. refl, λ _. refl)
is_lt_less Equal = (λ e. absurd (false≢true e), λ e. cc)
is_lt_less Greater = (λ e. absurd (false≢true e), λ e. cc)

-- keys are in the order of the patterns
pub before_is : (p q : Profile) → IsPattern p.pattern → IsPattern q.pattern → (is_before p q ≡ true) ↔ IsBefore p q
before_is p q hp hq =
    let keys = keys_are_in_order p.pattern q.pattern hp hq in
    let less = is_lt_less (slice_cmp nat_cmp (sort_key p.pattern) (sort_key q.pattern)) in
    (λ e. keys.0 (less.0 e), λ b. less.1 (keys.1 b))

pub covers_is : (p : Profile) (resource : List ℕ) → (covers_text p.pattern resource ≡ true) ↔ CoversText p.pattern resource
covers_is p resource = covers_computes (map tokens (qualifiers p.pattern)) (qualifiers resource)

module _ (profiles : List Profile) (resource : List ℕ) (patterns : (q : Profile) → Contains profiles q → IsPattern q.pattern) where
  decided_by : (o : Option Profile) → FirstIs (covering resource profiles) o → IsDeciding profiles resource o
  unfolding FirstIs
  decided_by None h = λ q m c. no_member q (rw h at (to_filter (λ (p : Profile). covers_text p.pattern resource) profiles q m ((covers_is q resource).1 c)))
  decided_by (Some d) h =
      let found = of_filter (λ (p : Profile). covers_text p.pattern resource) profiles d h.0 in (
        found.0,
        (covers_is d resource).0 found.1,
        λ q m c b. false≢true (sym (h.1 q (to_filter _ profiles q m ((covers_is q resource).1 c)))
            ∙ (before_is q d (patterns q m) (patterns d found.0)).1 b),
      )

  pub deciding_is : IsDeciding profiles resource (deciding profiles resource)
  deciding_is = decided_by (deciding profiles resource) (first_is (covering resource profiles))

-- two members with one class and one pattern are the same
abbrev Distinct : Profile → Profile → Type 0
Distinct p q = p.class ≡ q.class → p.pattern ≢ q.pattern

pub same_member : (profiles : List Profile) (p q : Profile) → AllPairs Distinct profiles → Contains profiles p
    → Contains profiles q → p.class ≡ q.class → p.pattern ≡ q.pattern → p ≡ q
same_member profiles p q distinct m n c e = go (cases_order m.0 n.0)
  where
    there : get_or profiles n.0 p ≡ q
    there = get_or_default profiles n.0 p q n.1 ∙ n.2

    here : get_or profiles m.0 q ≡ p
    here = get_or_default profiles m.0 q p m.1 ∙ m.2

    apart : Distinct p q → ⊥
    apart d = d c e

    apart_too : Distinct q p → ⊥
    apart_too d = d (sym c) (sym e)

    go : (m.0 ≡ n.0) ⊎ ((m.0 < n.0) ⊎ (n.0 < m.0)) → p ≡ q
    go (inl s) = sym m.2 ∙ rw s there
    go (inr (inl l)) = absurd (apart (rw (m.2, there) at (distinct m.0 n.0 p l n.1)))
    go (inr (inr l)) = absurd (apart_too (rw (n.2, here) at (distinct n.0 m.0 q l m.1)))

-- no two deciding profiles are different
module _ (profiles : List Profile) (resource : List ℕ) (class : Class) (sound : AreProfiles profiles)
    (one_class : (q : Profile) → Contains profiles q → q.class ≡ class) where
  pattern_of : (q : Profile) → Contains profiles q → IsPattern q.pattern
  pattern_of q m = All-contains (λ (p : Profile). IsPattern p.pattern) profiles q sound.patterns m

  pub one_deciding : (x y : Option Profile) → IsDeciding profiles resource x → IsDeciding profiles resource y → x ≡ y
  one_deciding None None h k = refl
  one_deciding None (Some q) h k = absurd (h q k.0 k.1)
  one_deciding (Some p) None h k = absurd (k p h.0 h.1)
  one_deciding (Some p) (Some q) h k = ap Some
      (same_member profiles p q sound.distinct h.0 k.0 (one_class p h.0 ∙ sym (one_class q k.0))
      (same (bytes_eq p.pattern q.pattern) (bytes_eq-Decides p.pattern q.pattern)))
    where
      same : (b : Bool) → Decides b (p.pattern ≡ q.pattern) → p.pattern ≡ q.pattern
      same true d = d.0 refl
      same false d = ⊎_elim (λ b. absurd (k.2 p h.0 h.1 b)) (λ b. absurd (h.2 q k.0 k.1 b))
          (one_is_before p.pattern q.pattern (pattern_of p h.0) (pattern_of q k.0) (λ e. false≢true (d.1 e)))

-- the profiles of a class
module _ (profiles : List Profile) (class : Class) (sound : AreProfiles profiles) where
  pub class_profiles : AreProfiles (of_class class profiles)
  class_profiles = record {
    patterns = All-filter (λ (p : Profile). same_class p.class class) (λ (p : Profile). IsPattern p.pattern) profiles sound.patterns;
    distinct = AllPairs-filter Distinct (λ (p : Profile). same_class p.class class) profiles sound.distinct;
  }

  pub in_class : (q : Profile) → Contains (of_class class profiles) q → q.class ≡ class
  in_class q m = same_class_is q.class class (of_filter (λ (p : Profile). same_class p.class class) profiles q m).1

  pub class_pattern : (q : Profile) → Contains (of_class class profiles) q → IsPattern q.pattern
  class_pattern q m = All-contains (λ (p : Profile). IsPattern p.pattern) (of_class class profiles) q class_profiles.patterns m

pub deciding_is_most_specific : DecidingIsMostSpecific
deciding_is_most_specific profiles class resource sound = deciding_is (of_class class profiles) resource (class_pattern profiles class sound)

pub one_is_deciding : OneIsDeciding
one_is_deciding profiles class resource decided sound h =
    one_deciding (of_class class profiles) resource class (class_profiles profiles class sound)
    (in_class profiles class sound) decided (deciding (of_class class profiles) resource) h
    (deciding_is_most_specific profiles class resource sound)
