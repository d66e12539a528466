-- Patterns in order that come before one: those whose sort keys are below its head cover nothing that it covers.
use Rattle.std.proofs.Common.{
  ◌≡◌,
  ◌≤◌,
  ◌<◌,
  ◌∙◌,
  ◌||◌,
  ◌⊎◌,
  ℕ,
  All,
  Bool,
  true,
  false,
  zero,
  suc,
  List,
  [],
  ◌∷◌,
  Ordering,
  ap,
  arith,
  drop,
  get_or,
  inl,
  inr,
  length,
  refl,
  subst,
  sym,
}
use Rattle.std.specs.Cmp.Lexicographic.{nat_list_cmp_total, slice_cmp}
use Rattle.std.specs.List.{AllPairs, list_any}
use Rattle.std.specs.List.Sorted.{IsPartitionPoint, IsPartitionedBy}
use Rattle.std.specs.Ordering.{is_lt, nat_cmp}
use Rattle.std.specs.declared.cmp.Ordering.TheVariants.{Less}
use Rattle.std.proofs.lemmas.Bool.{cases_lt}
use Rattle.opc_names.specs.Names.{IsPattern}
use Rattle.opc_names.specs.Order.{head, sort_key}
use Rattle.opc_names.specs.Patterns.{covers_text, tokens}
use Rattle.opc_names.proofs.Computed.{text_computes}
use Rattle.opc_policy_witness.proofs.SortKeys.{in_range, less_is}
use Rattle.opc_policy_deciders.specs.Near.{AreNear, ComeBefore, IsEarlier}

abbrev pub is_below : List ℕ → List ℕ → Bool
is_below h q = is_lt (slice_cmp nat_cmp (sort_key q) h)

lt_is : (r : Ordering) → r ≡ Less → is_lt r ≡ true
lt_is r e = ap is_lt e

below_before : (h p q : List ℕ) → IsEarlier p q → is_below h q ≡ true → is_below h p ≡ true
below_before h p q earlier below =
    lt_is (slice_cmp nat_cmp (sort_key p) h)
    (nat_list_cmp_total.trans (sort_key p) (sort_key q) h (less_is _ earlier) (less_is _ below))

pub parted : (h : List ℕ) (list : List (List ℕ)) → AllPairs IsEarlier list → IsPartitionedBy (is_below h) list
parted h list up i j d low high below = go (cases_lt i j)
  where
    go : (i < j) ⊎ (j ≤ i) → is_below h (get_or list i d) ≡ true
    go (inl less) = below_before h (get_or list i d) (get_or list j d) (up i j d less high) below
    go (inr more) =
        let same : i ≡ j = omega (arith, low, more) in
        subst (λ (k : ℕ). is_below h (get_or list k d) ≡ true) (sym same) below

dropped : (test : List ℕ → Bool) (n : ℕ) (xs : List (List ℕ))
    → ((k : ℕ) (d : List ℕ) → k < n → k < length xs → test (get_or xs k d) ≡ false) → list_any test (drop n xs) ≡ list_any test xs
dropped test zero [] fails = refl
dropped test (suc n) [] fails = refl
dropped test zero (x ∷ xs) fails = refl
dropped test (suc n) (x ∷ xs) fails =
    dropped test n xs (λ k d low within. fails (suc k) d (omega (arith, low)) (omega (arith, within)))
    ∙ sym (ap (λ b. b || list_any test xs) (fails 0 x (omega arith) (omega arith)))

covers_not : (p q r : List ℕ) → IsPattern p → IsPattern q → covers_text p r ≡ true → IsEarlier q p → is_below (head (tokens p)) q ≡ true
    → (b : Bool) → covers_text q r ≡ b → covers_text q r ≡ false
covers_not p q r valid other covered earlier below false is = is
covers_not p q r valid other covered earlier below true is =
    let bad : true ≡ false = sym below
    ∙ in_range p q r valid other ((text_computes (covers_text p r) p r refl).0 covered) ((text_computes (covers_text q r) q r refl).0 is) earlier in
    cc

pub are_near : (p : List ℕ) (before found : List (List ℕ)) (from : ℕ) → IsPattern p → All IsPattern before → ComeBefore before p
    → IsPartitionPoint (λ q. is_below (head (tokens p)) q ≡ true) (λ q. is_below (head (tokens p)) q ≡ false) before from
    → found ≡ drop from before → AreNear p found before
are_near p before found from valid all come parts is r covered =
    ap (list_any (λ (q : List ℕ). covers_text q r)) is
    ∙ dropped (λ (q : List ℕ). covers_text q r) from before (λ k d low within.
    covers_not p (get_or before k d) r valid (all k d within) covered (come.before k d within) (parts.0 k d (omega arith) low) _ refl)
