-- The first that covers, of profiles in the order of their patterns, decides.
use Rattle.std.proofs.Common.{
  ◌≡◌,
  ℕ,
  ◌<◌,
  ◌≤◌,
  ◌+◌,
  Bool,
  true,
  false,
  List,
  [],
  ◌∷◌,
  ◌++◌,
  get_or,
  length,
  zero,
  suc,
  Option,
  Some,
  None,
  All,
  refl,
  sym,
  ap,
  ◌∙◌,
  subst,
  arith,
  ◌⊎◌,
  inl,
  inr,
}
use Rattle.std.specs.Cmp.{IsStrictWeakOrder}
use Rattle.std.specs.Cmp.Lexicographic.{slice_cmp, nat_list_cmp_total}
use Rattle.std.specs.List.{slice_get}
use Rattle.std.specs.List.Sorted.{IsSortedBy}
use Rattle.std.specs.Ordering.{nat_cmp, is_lt}
use Rattle.std.proofs.lemmas.Bool.{false≢true, cases_order}
use Rattle.std.proofs.lemmas.List.{get_or_default}
use Rattle.std.proofs.lemmas.List.MinMax.{ranks_by}
use Rattle.std.proofs.lemmas.List.Sorted.{sorted_far}
use Rattle.opc_names.specs.Names.{IsPattern}
use Rattle.opc_names.specs.Order.{sort_key}
use Rattle.opc_names.specs.Patterns.{covers_text}
use Rattle.opc_policy_members.specs.Profiles.{is_before}
use Rattle.opc_policy_members.specs.declared.profile.Profile.{Profile}
use Rattle.opc_policy.specs.Deciding.{covering, deciding, first_of, first_with}
use Rattle.opc_policy.proofs.FirstCovering.{uncovered_text}
use Rattle.opc_policy.proofs.MostSpecific.{ordered, of_filter, FirstIs, first_is}
use Rattle.opc_names_keys.proofs.Followed.{covered_names_follow}
use Rattle.opc_names_keys.specs.Follows.{FollowsNone, follows}

abbrev IsUncovered : List ℕ → Profile → Type 0
IsUncovered name p = covers_text p.pattern name ≡ false

-- no profile before a place covers
abbrev pub NoneBefore : List ℕ → List Profile → ℕ → Type 0
NoneBefore name profiles place = (k : ℕ) (d : Profile) → k < place → IsUncovered name (get_or profiles k d)

-- a pattern whose key a name does not follow does not cover it
uncovered : (p : Profile) (name : List ℕ) → IsPattern p.pattern → follows (sort_key p.pattern) (name ++ 46 ∷ []) ≡ false → IsUncovered name p
uncovered p name pattern h = uncovered_text p name (λ c. false≢true (sym h ∙ covered_names_follow p.pattern name pattern c))

-- none is before an earlier one
abbrev Rises : List Profile → Type 0
Rises profiles = (i j : ℕ) (d : Profile) → i ≤ j → j < length profiles → is_before (get_or profiles j d) (get_or profiles i d) ≡ false

pub rises : (profiles : List Profile) → IsSortedBy is_before profiles → Rises profiles
rises profiles up = sorted_far is_before ordered profiles up

module _ (name : List ℕ) (profiles : List Profile) (patterns : All (λ (p : Profile). IsPattern p.pattern) profiles)
    (up : IsSortedBy is_before profiles) where
  -- what is skipped if a name differs from a key
  pub passed : (place to : ℕ) (p : Profile) (upto : List ℕ) → place < length profiles → to ≤ length profiles
      → get_or profiles place p ≡ p → NoneBefore name profiles place → follows (sort_key p.pattern) (name ++ 46 ∷ []) ≡ false
      → FollowsNone (name ++ 46 ∷ []) (sort_key p.pattern) upto
      → ((k : ℕ) (d : Profile) → place + 1 ≤ k → k < to
      → is_lt (slice_cmp nat_cmp (sort_key (get_or profiles k d).pattern) upto) ≡ true)
      → NoneBefore name profiles to
  passed place to p upto there within is none itself later below k d less = go (cases_order k place)
    where
      here : get_or profiles place d ≡ p
      here = get_or_default profiles place d p there ∙ is

      go : (k ≡ place) ⊎ ((k < place) ⊎ (place < k)) → IsUncovered name (get_or profiles k d)
      go (inl e) = subst (IsUncovered name) (sym (ap (λ i. get_or profiles i d) e ∙ here))
          (uncovered p name (subst (λ (q : Profile). IsPattern q.pattern) here (patterns place d there)) itself)
      go (inr (inl l)) = none k d l
      go (inr (inr l)) =
          let q = get_or profiles k d in
          uncovered q name (patterns k d (omega (arith, less, within)))
          (later (sort_key q.pattern)
          (subst (λ (r : Profile). is_before q r ≡ false) here (rises profiles up place k d (omega (arith, l)) (omega (arith, less, within))))
          (below k d (omega (arith, l)) less))

-- if none before it covers, one that covers decides

stays : (name : List ℕ) (x : Profile) (xs : List Profile) → Rises (x ∷ xs) → (o : Option Profile) → FirstIs (covering name xs) o → first_with x o ≡ x
unfolding FirstIs
stays name x xs up None h = refl
stays name x xs up (Some q) h =
    let there = (of_filter (λ (p : Profile). covers_text p.pattern name) xs q h.0).0 in
    let after : is_before q x ≡ false =
    subst (λ (r : Profile). is_before r x ≡ false) there.2 (up 0 (suc there.0) q (omega arith) (let l = there.1 in omega (arith, l))) in
    rw after refl

first_found : (name : List ℕ) (profiles : List Profile) (place : ℕ) (d : Profile) → Rises profiles → NoneBefore name profiles place
    → place < length profiles → covers_text (get_or profiles place d).pattern name ≡ true
    → slice_get profiles place ≡ deciding profiles name
first_found name [] place d up none there covers = absurd (omega (arith, there))
first_found name (x ∷ xs) zero d up none there covers =
    rw covers (ap Some (sym (stays name x xs up (first_of (covering name xs)) (first_is (covering name xs)))))
first_found name (x ∷ xs) (suc place) d up none there covers =
    rw (none 0 d (omega arith))
    (first_found name xs place d (λ i j e l m. up (suc i) (suc j) e (omega (arith, l)) (omega (arith, m)))
    (λ k e l. none (suc k) e (omega (arith, l))) (omega (arith, there)) covers)

pub found_decides : (name : List ℕ) (profiles : List Profile) (place : ℕ) (p : Profile) → IsSortedBy is_before profiles
    → NoneBefore name profiles place → place < length profiles → get_or profiles place p ≡ p → covers_text p.pattern name ≡ true
    → slice_get profiles place ≡ deciding profiles name
found_decides name profiles place p up none there is covers =
    first_found name profiles place p (rises profiles up) none there (subst (λ (q : Profile). covers_text q.pattern name ≡ true) (sym is) covers)

-- one more that does not cover
pub one_more : (name : List ℕ) (profiles : List Profile) (place : ℕ) (p : Profile) → place < length profiles
    → get_or profiles place p ≡ p → NoneBefore name profiles place → IsUncovered name p → NoneBefore name profiles (place + 1)
one_more name profiles place p there is none left k d less = go (cases_order k place)
  where
    go : (k ≡ place) ⊎ ((k < place) ⊎ (place < k)) → IsUncovered name (get_or profiles k d)
    go (inl e) = subst (IsUncovered name) (sym (ap (λ i. get_or profiles i d) e ∙ (get_or_default profiles place d p there ∙ is))) left
    go (inr (inl l)) = none k d l
    go (inr (inr l)) = absurd (omega (arith, l, less))

-- ---- sort keys below one

lists_ordered : IsStrictWeakOrder (λ (x y : List ℕ). is_lt (slice_cmp nat_cmp x y))
lists_ordered = ranks_by nat_list_cmp_total (λ x. x)

below_too : (key other upto : List ℕ) → is_lt (slice_cmp nat_cmp other key) ≡ false → is_lt (slice_cmp nat_cmp other upto) ≡ true
    → is_lt (slice_cmp nat_cmp key upto) ≡ true
below_too key other upto after below = go (is_lt (slice_cmp nat_cmp key upto)) refl
  where
    go : (b : Bool) → is_lt (slice_cmp nat_cmp key upto) ≡ b → b ≡ true
    go true e = refl
    go false e = absurd (false≢true (sym (lists_ordered.chain other key upto after e) ∙ below))

-- if the key in a place is below one, so are all up to it
pub below_all : (profiles : List Profile) (place : ℕ) (p : Profile) (upto : List ℕ) → IsSortedBy is_before profiles
    → place < length profiles → get_or profiles place p ≡ p → is_lt (slice_cmp nat_cmp (sort_key p.pattern) upto) ≡ true
    → (k : ℕ) (d : Profile) → k ≤ place → is_lt (slice_cmp nat_cmp (sort_key (get_or profiles k d).pattern) upto) ≡ true
below_all profiles place p upto up there is below k d within =
    let here : get_or profiles place d ≡ p = get_or_default profiles place d p there ∙ is in
    below_too (sort_key (get_or profiles k d).pattern) (sort_key p.pattern) upto
    (subst (λ (q : Profile). is_before q (get_or profiles k d) ≡ false) here (rises profiles up k place d within there)) below
