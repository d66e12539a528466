-- The places that decide nothing with a pattern of the other side.
use Rattle.std.proofs.Common.{
  ◌≡◌,
  ◌⊎◌,
  inl,
  inr,
  ◌≤◌,
  ◌<◌,
  ◌∙◌,
  ap,
  sym,
  refl,
  ℕ,
  zero,
  suc,
  Bool,
  true,
  false,
  List,
  [],
  ◌∷◌,
  Some,
  None,
  All,
  get_or,
  length,
  map,
  arith,
}
use Rattle.std.specs.Cmp.Lexicographic.{nat_list_cmp_total, slice_cmp}
use Rattle.std.specs.List.{AllPairs, slice_get}
use Rattle.std.specs.Ordering.{is_lt, nat_cmp}
use Rattle.std.specs.Str.{bytes_eq}
use Rattle.std.proofs.lemmas.Bool.{false≢true}
use Rattle.std.proofs.lemmas.Cmp.{tied_itself}
use Rattle.std.proofs.lemmas.List.{length-map}
use Rattle.std.proofs.lemmas.Option.{same_Some, slice_get-get_or}
use Rattle.std.proofs.lemmas.Slice.Eq.{bytes_eq-Decides}
use Rattle.opc_names.specs.Names.{IsPattern}
use Rattle.opc_names.specs.Order.{head, sort_key}
use Rattle.opc_names.specs.Patterns.{tokens}
use Rattle.opc_policy_members.specs.declared.policy.Policy.{Policy}
use Rattle.opc_policy_deciders.specs.Decided.{ArePatternsOf}
use Rattle.opc_policy_deciders.specs.Near.{IsEarlier}
use Rattle.opc_policy_deciders.specs.Pairs.{NoneDecidedByBoth, is_among}
use Rattle.opc_policy_deciders.specs.Places.{ArePassed, IsPassed, NoneDecidedWith}
use Rattle.opc_policy_deciders.proofs.Differing.{none_in_common}
use Rattle.opc_policy_deciders.proofs.Refused.{both_stand, far_apart, moved, stood_there}

-- ---- its own place

not_below_itself : (k : List ℕ) → is_lt (slice_cmp nat_cmp k k) ≡ false
not_below_itself k = ap is_lt (tied_itself nat_list_cmp_total k)

module _ (p : List ℕ) (others : List (List ℕ)) (own : ℕ) (up : AllPairs IsEarlier others)
    (below : (k : ℕ) (d : List ℕ) → 0 ≤ k → k < own → is_lt (slice_cmp nat_cmp (sort_key (get_or others k d)) (sort_key p)) ≡ true)
    (rest : (k : ℕ) (d : List ℕ) → own ≤ k → k < length others → is_lt (slice_cmp nat_cmp (sort_key (get_or others k d)) (sort_key p)) ≡ false)
  where
    pub not_own : (k : ℕ) (d : List ℕ) → k < length others → (k < own) ⊎ (own < k) → p ≡ get_or others k d → ⊥
    not_own k d there (inl before) same =
        false≢true (sym (not_below_itself (sort_key p)) ∙ ap (λ q. is_lt (slice_cmp nat_cmp (sort_key q) (sort_key p))) same
        ∙ below k d (omega arith) before)
    not_own k d there (inr after) same =
        false≢true (sym (rest own d (omega arith) (omega (arith, after, there)))
        ∙ ap (λ q. is_lt (slice_cmp nat_cmp (sort_key (get_or others own d)) (sort_key q))) same ∙ up own k d after there)

-- ---- what stands at a place

pub stands_among : (patterns others : List (List ℕ)) (stand : List Bool) (k : ℕ) (q : List ℕ) → stand ≡ map (is_among patterns) others
    → slice_get others k ≡ Some q → slice_get stand k ≡ Some true → is_among patterns q ≡ true
stands_among patterns others stand k q is at stands = go others k at (sym (ap (λ l. slice_get l k) is) ∙ stands)
  where
    go : (os : List (List ℕ)) (k : ℕ) → slice_get os k ≡ Some q → slice_get (map (is_among patterns) os) k ≡ Some true → is_among patterns q ≡ true
    go [] k at stands = cc
    go (o ∷ os) zero at stands = ap (is_among patterns) (sym (same_Some o q at)) ∙ same_Some _ true stands
    go (o ∷ os) (suc k) at stands = go os k at stands

apart : (p q : List ℕ) → (p ≡ q → ⊥) → bytes_eq p q ≡ false
apart p q differ = go (bytes_eq p q) refl
  where
    go : (b : Bool) → bytes_eq p q ≡ b → b ≡ false
    go true same = absurd (differ ((bytes_eq-Decides p q).0 same))
    go false other = refl

-- ---- places that are passed, but not its own

module _ (p : List ℕ) (stands : Bool) (others : List (List ℕ)) (stand : List Bool) (own from upto : ℕ) (valid : IsPattern p)
    (all : All IsPattern others) (up : AllPairs IsEarlier others)
    (below : (k : ℕ) (d : List ℕ) → 0 ≤ k → k < own → is_lt (slice_cmp nat_cmp (sort_key (get_or others k d)) (sort_key p)) ≡ true)
    (rest : (k : ℕ) (d : List ℕ) → own ≤ k → k < length others → is_lt (slice_cmp nat_cmp (sort_key (get_or others k d)) (sort_key p)) ≡ false)
    (passed : ArePassed stands (head (tokens p)) others stand from upto) where
  pub none_passed : (to : ℕ) → to ≤ upto → to ≤ length others → ((k : ℕ) → from ≤ k → k < to → (k < own) ⊎ (own < k))
      → (one two : Policy) (patterns : List (List ℕ)) → ArePatternsOf one patterns → ArePatternsOf two others
      → stands ≡ is_among others p → stand ≡ map (is_among patterns) others → NoneDecidedWith one two (Some p) others from to
  none_passed to high within elsewhere one two patterns are be is so k low less =
      moved one two (Some p) (Some p) (slice_get others k) (Some q) refl here (go (passed k low (omega (arith, less, high))))
    where
      inside : k < length others
      inside = omega (arith, less, within)

      q : List ℕ
      q = get_or others k p

      here : slice_get others k ≡ Some q
      here = slice_get-get_or others k p inside

      go : IsPassed stands (head (tokens p)) others stand k → NoneDecidedByBoth one two (Some p) (Some q)
      go (inl skipped) =
          both_stand p q one two patterns others are be (sym is ∙ skipped.0) (stands_among patterns others stand k q so here skipped.1)
          (apart p q (not_own p others own up below rest k p inside (elsewhere k low less)))
      go (inr differs) = far_apart p q one two patterns others are be (none_in_common p q valid (all k p inside) (differs p))

-- ---- at the end of the patterns

pub none_alone : (patterns others : List (List ℕ)) (stand : List Bool) (at from upto : ℕ) → slice_get patterns at ≡ None → upto ≤ length stand
    → stand ≡ map (is_among patterns) others → ((place : ℕ) → from ≤ place → place < upto → slice_get stand place ≡ Some true)
    → (one two : Policy) → ArePatternsOf one patterns → ArePatternsOf two others
    → NoneDecidedWith one two (slice_get patterns at) others from upto
none_alone patterns others stand at from upto end within so stands one two are be k low high =
    let q = get_or others k [] in
    let long : length stand ≡ length others = ap length so ∙ length-map others (is_among patterns) in
    let here : slice_get others k ≡ Some q = slice_get-get_or others k [] (omega (arith, high, within, long)) in
    moved one two (slice_get patterns at) None (slice_get others k) (Some q) end here
    (stood_there q one two patterns others are be (stands_among patterns others stand k q so here (stands k low high)))
