-- Patterns whose sort keys differ from a text cover nothing that begins with it.
use Rattle.std.proofs.Common.{
  ◌≡◌,
  ◌⊎◌,
  inl,
  inr,
  ◌≤◌,
  ◌<◌,
  ◌+◌,
  ◌-◌,
  ◌∙◌,
  ◌&&◌,
  ◌||◌,
  ap,
  sym,
  refl,
  subst,
  ℕ,
  zero,
  suc,
  Bool,
  true,
  false,
  nat_lt,
  drop,
  List,
  [],
  ◌∷◌,
  ◌++◌,
  Ordering,
  append_assoc,
  get_or,
  length,
  arith,
}
use Rattle.std.specs.Cmp.Lexicographic.{nat_list_cmp_total, slice_cmp}
use Rattle.std.specs.List.{AllPairs}
use Rattle.std.specs.List.Sorted.{IsPartitionPoint, IsPartitionedBy}
use Rattle.std.specs.Ordering.{is_lt, nat_cmp, ordering_reverse}
use Rattle.std.specs.declared.cmp.Ordering.TheVariants.{Less, Equal, Greater}
use Rattle.std.proofs.lemmas.Bool.{cases_order, false≢true}
use Rattle.std.proofs.lemmas.List.{get_or-drop, get_or_default, length-drop}
use Rattle.opc_names.specs.Names.{IsPattern}
use Rattle.opc_names.specs.Order.{head, sort_key}
use Rattle.opc_names.specs.Patterns.{CoversText, tokens}
use Rattle.opc_names.proofs.Heads.{heads_are_prefixes}
use Rattle.opc_names_keys.proofs.Followed.{covered_names_follow}
use Rattle.opc_names_keys.specs.Follows.{FollowsNone, follows, stands_for}
use Rattle.opc_policy_witness.specs.Ends.{NoneInCommon}
use Rattle.opc_policy_deciders.specs.Near.{IsEarlier}
use Rattle.opc_policy_deciders.specs.Places.{DiffersBetween}
use Rattle.opc_policy_deciders.proofs.Parting.{is_below, parted}

-- a beginning of a text follows what the text does
beginning_follows : (key text more : List ℕ) → follows key (text ++ more) ≡ true → follows key text ≡ true
beginning_follows [] text more h = refl
beginning_follows (b ∷ key) [] more h = refl
beginning_follows (b ∷ key) (c ∷ text) more h = go (nat_lt 128 b) (stands_for b c) h (beginning_follows key text more)
  where
    go : (x y : Bool) → (x || (y && follows key (text ++ more))) ≡ true → (follows key (text ++ more) ≡ true → follows key text ≡ true)
        → (x || (y && follows key text)) ≡ true
    go true y h later = refl
    go false true h later = later h
    go false false h later = h

pub not_covered : (q text rest resource : List ℕ) → IsPattern q → resource ≡ text ++ rest → follows (sort_key q) text ≡ false
    → CoversText q resource → ⊥
not_covered q text rest resource valid is differs covers =
    let whole : (text ++ rest) ++ 46 ∷ [] ≡ text ++ (rest ++ 46 ∷ []) = append_assoc text rest (46 ∷ []) in
    let all : follows (sort_key q) (text ++ (rest ++ 46 ∷ [])) ≡ true =
    subst (λ t. follows (sort_key q) t ≡ true) (ap (λ r. r ++ 46 ∷ []) is ∙ whole) (covered_names_follow q resource valid covers) in
    false≢true (sym differs ∙ beginning_follows (sort_key q) text (rest ++ 46 ∷ []) all)

-- a pattern that differs from the head of another
pub none_in_common : (p q : List ℕ) → IsPattern p → IsPattern q → follows (sort_key q) (head (tokens p)) ≡ false → NoneInCommon p q
none_in_common p q valid other differs resource covers also =
    let begins = heads_are_prefixes p resource valid covers in
    not_covered q (head (tokens p)) begins.0 resource other begins.1 differs also

-- ---- from one place on

not_less : (o : Ordering) → is_lt o ≡ true → is_lt (ordering_reverse o) ≡ false
not_less Less h = refl
not_less Equal h = refl
not_less Greater h = absurd (false≢true h)

pub not_earlier : (p q : List ℕ) → IsEarlier p q → is_lt (slice_cmp nat_cmp (sort_key q) (sort_key p)) ≡ false
not_earlier p q earlier =
    ap is_lt (nat_list_cmp_total.antisymm (sort_key q) (sort_key p)) ∙ not_less (slice_cmp nat_cmp (sort_key p) (sort_key q)) earlier

pub past : (text : List ℕ) (patterns : List (List ℕ)) (place to : ℕ) (p upto : List ℕ) → AllPairs IsEarlier patterns → place < length patterns
    → to ≤ length patterns → p ≡ get_or patterns place p → follows (sort_key p) text ≡ false → FollowsNone text (sort_key p) upto
    → ((k : ℕ) (d : List ℕ) → place + 1 ≤ k → k < to → is_lt (slice_cmp nat_cmp (sort_key (get_or patterns k d)) upto) ≡ true)
    → DiffersBetween text patterns place to
past text patterns place to p upto up there within is itself later below k low high d = go (cases_order k place)
  where
    here : get_or patterns place d ≡ p
    here = get_or_default patterns place d p there ∙ sym is

    go : (k ≡ place) ⊎ ((k < place) ⊎ (place < k)) → follows (sort_key (get_or patterns k d)) text ≡ false
    go (inl e) = ap (λ i. follows (sort_key (get_or patterns i d)) text) e ∙ ap (λ q. follows (sort_key q) text) here ∙ itself
    go (inr (inl l)) = absurd (omega (arith, l, low))
    go (inr (inr l)) =
        let q = get_or patterns k d in
        later (sort_key q)
        (not_earlier p q (subst (λ x. IsEarlier x q) here (up place k d l (omega (arith, high, within))))) (below k d (omega (arith, l)) high)

pub nothing_past : (text : List ℕ) (patterns : List (List ℕ)) (place : ℕ) → DiffersBetween text patterns place place
nothing_past text patterns place k low high d = absurd (omega (arith, low, high))

-- ---- those that come behind a place

all_behind : (patterns : List (List ℕ)) (from : ℕ) → AllPairs IsEarlier patterns → AllPairs IsEarlier (drop from patterns)
all_behind patterns zero up = up
all_behind [] (suc from) up = up
all_behind (p ∷ patterns) (suc from) up =
    all_behind patterns from (λ i j d less high. up (suc i) (suc j) d (omega (arith, less)) (omega (arith, high)))

pub parted_behind : (patterns rest : List (List ℕ)) (from : ℕ) (key : List ℕ) → rest ≡ drop from patterns → AllPairs IsEarlier patterns
    → IsPartitionedBy (is_below key) rest
parted_behind patterns rest from key is up = subst (IsPartitionedBy (is_below key)) (sym is) (parted key (drop from patterns) (all_behind patterns from up))

-- and those of them whose sort keys are below one
module _ (patterns rest : List (List ℕ)) (from at : ℕ) (key : List ℕ) (is : rest ≡ drop from patterns) (low : from ≤ length patterns)
    (parts : IsPartitionPoint (λ q. is_below key q ≡ true) (λ q. is_below key q ≡ false) rest at) where
  here : (k : ℕ) (d : List ℕ) → from ≤ k → get_or rest (k - from) d ≡ get_or patterns k d
  here k d up =
      ap (λ l. get_or l (k - from) d) is ∙ get_or-drop from patterns (k - from) d ∙ ap (λ i. get_or patterns i d) (again from k up)
    where
      again : (from k : ℕ) → from ≤ k → from + (k - from) ≡ k
      again from k up = omega (arith, up)

  pub those_below : (k : ℕ) (d : List ℕ) → from ≤ k → k < from + at → is_below key (get_or patterns k d) ≡ true
  those_below k d up high =
      ap (is_below key) (sym (here k d up)) ∙ parts.0 (k - from) d (omega arith) (omega (arith, up, high))

  pub those_not_below : (k : ℕ) (d : List ℕ) → from + at ≤ k → k < length patterns → is_below key (get_or patterns k d) ≡ false
  those_not_below k d up high =
      let long : length rest ≡ length patterns - from = ap length is ∙ length-drop from patterns in
      ap (is_below key) (sym (here k d (omega (arith, up)))) ∙ parts.1 (k - from) d (omega (arith, up)) (omega (arith, up, high, long))
