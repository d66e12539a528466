-- Profiles that a search in their order skips, since they cannot cover.
use Rattle.std.proofs.Common.{◌≡◌, ℕ, ◌<◌, ◌≤◌, Bool, true, false, not, ◌&&◌, cond, List, [], ◌∷◌, ◌++◌, length, filter, get_or, Some, None, find, refl, sym, ap, ◌∙◌, subst, arith, All}
use Rattle.std.specs.BTreeMap.Range.{is_from_start}
use Rattle.std.specs.Cmp.{both_ways, IsStrictWeakOrder}
use Rattle.std.specs.Cmp.Lexicographic.{nat_list_cmp_total, slice_cmp, texts_ties}
use Rattle.std.specs.Ordering.{nat_cmp, is_eq, is_le, is_lt, ordering_reverse}
use Rattle.std.specs.declared.cmp.Ordering.{Ordering}
use Rattle.std.specs.declared.cmp.Ordering.TheVariants.{Less, Equal, Greater}
use Rattle.std.specs.declared.ops.Bound.{Bound}
use Rattle.std.specs.declared.ops.Bound.TheVariants.{Included, Excluded, Unbounded}
use Rattle.std.proofs.lemmas.Bool.{false≢true}
use Rattle.std.proofs.lemmas.List.Elements.{All-cons, All-head, All-nil, All-tail}
use Rattle.std.proofs.lemmas.List.MinMax.{ranks_by}
use Rattle.std.proofs.lemmas.Slice.Eq.{bytes_eq-Decides}
use Rattle.opc_names.specs.Authority.{same_class}
use Rattle.opc_names.specs.Names.{IsPattern}
use Rattle.opc_names.specs.Order.{sort_key}
use Rattle.opc_names.specs.Patterns.{covers_text}
use Rattle.opc_names.specs.declared.class.Class.{Class}
use Rattle.opc_names.proofs.KeysDiffer.{keys_differ}
use Rattle.opc_names_keys.proofs.Followed.{covered_names_follow}
use Rattle.opc_names_keys.specs.Follows.{FollowsNone}
use Rattle.opc_policy.proofs.InOrder.{IsEarlier, before_once, both_true, one_class, pairs_head, pairs_tail}
use Rattle.opc_policy.proofs.MostSpecific.{covers_is, not_before_itself}
use Rattle.opc_policy.specs.Explained.{is_covering_from}
use Rattle.opc_policy_members.proofs.Maps.{passes-find}
use Rattle.opc_policy_members.specs.Profiles.{AreMostSpecificFirst, AreProfiles, is_before, is_of_from}
use Rattle.opc_policy_members.specs.declared.profile.Profile.{Profile}

-- ---- the order of sort keys

abbrev pub below : List ℕ → List ℕ → Bool
below x y = is_lt (slice_cmp nat_cmp x y)

pub keys : IsStrictWeakOrder below
keys = ranks_by nat_list_cmp_total (λ x. x)

at_most : (x y : List ℕ) → is_le (slice_cmp nat_cmp x y) ≡ not (below y x)
at_most x y = rw (nat_list_cmp_total.antisymm x y) (go (slice_cmp nat_cmp y x))
  where
    go : (o : Ordering) → is_le (ordering_reverse o) ≡ not (is_lt o)
    go Less = refl
    go Equal = refl
    go Greater = refl

not_true : (b : Bool) → not b ≡ true → b ≡ false
not_true true h = absurd (false≢true h)
not_true false h = refl

below_least : (x y z : List ℕ) → below x y ≡ true → below z y ≡ false → below x z ≡ true
below_least x y z less least = go (below x z) refl
  where
    go : (b : Bool) → below x z ≡ b → b ≡ true
    go true e = refl
    go false e = absurd (false≢true (sym (keys.chain x z y e least) ∙ less))

-- what is not below a key from a start on is from it on, too
onward : (start : Bound (List ℕ)) (x y : List ℕ) → is_from_start (slice_cmp nat_cmp) start x ≡ true → below y x ≡ false
    → is_from_start (slice_cmp nat_cmp) start y ≡ true
onward (Included s) x y from least =
    at_most s y ∙ ap not (keys.chain y x s least (not_true (below x s) (sym (at_most s x) ∙ from)))
onward (Excluded s) x y from least = below_least s x y from least
onward Unbounded x y from least = refl

tied : (x y : List ℕ) → below x y ≡ false → below y x ≡ false → x ≡ y
tied x y one other = (bytes_eq-Decides x y).0 (texts_ties x y ∙ go (slice_cmp nat_cmp x y) one (rw (nat_list_cmp_total.antisymm y x) at other))
  where
    go : (o : Ordering) → is_lt o ≡ false → is_lt (ordering_reverse o) ≡ false → is_eq o ≡ true
    go Less h k = absurd (false≢true (sym h))
    go Equal h k = refl
    go Greater h k = absurd (false≢true (sym k))

-- ---- lists by tests

pub find_same : (q r : Profile → Bool) (ps : List Profile) → All (λ p. q p ≡ r p) ps → find q ps ≡ find r ps
find_same q r [] h = refl
find_same q r (p ∷ ps) h =
    rw (All-head (λ p. q p ≡ r p) p ps h, find_same q r ps (All-tail (λ p. q p ≡ r p) p ps h)) refl

no_more : (q r : Profile → Bool) (ps : List Profile) → All (λ p. r p ≡ true → q p ≡ true) ps → length (filter r ps) ≤ length (filter q ps)
no_more q r [] h = omega arith
no_more q r (p ∷ ps) h =
    go (q p) (r p) (All-head (λ p. r p ≡ true → q p ≡ true) p ps h) (no_more q r ps (All-tail (λ p. r p ≡ true → q p ≡ true) p ps h))
  where
    go : (b c : Bool) → (c ≡ true → b ≡ true) → length (filter r ps) ≤ length (filter q ps)
        → length (cond c (p ∷ filter r ps) (filter r ps)) ≤ length (cond b (p ∷ filter q ps) (filter q ps))
    go true true k m = omega (arith, m)
    go true false k m = omega (arith, m)
    go false true k m = absurd (false≢true (k refl))
    go false false k m = m

fewer : (q r : Profile → Bool) (first : Profile) (ps : List Profile) → find q ps ≡ Some first → r first ≡ false
    → All (λ p. r p ≡ true → q p ≡ true) ps → length (filter r ps) < length (filter q ps)
fewer q r first [] is other h = (cc)
fewer q r first (p ∷ ps) is other h =
    go (q p) (r p) refl is (All-head (λ p. r p ≡ true → q p ≡ true) p ps h) (no_more q r ps rest) (λ e. fewer q r first ps e other rest)
  where
    rest : All (λ p. r p ≡ true → q p ≡ true) ps
    rest = All-tail (λ p. r p ≡ true → q p ≡ true) p ps h

    go : (b c : Bool) → r p ≡ c → cond b (Some p) (find q ps) ≡ Some first → (c ≡ true → b ≡ true)
        → length (filter r ps) ≤ length (filter q ps)
        → (find q ps ≡ Some first → length (filter r ps) < length (filter q ps))
        → length (cond c (p ∷ filter r ps) (filter r ps)) < length (cond b (p ∷ filter q ps) (filter q ps))
    go true true e found k m more = let same : p ≡ first = (cc) in absurd (false≢true (sym other ∙ ap r (sym same) ∙ e))
    go true false e found k m more = omega (arith, m)
    go false true e found k m more = absurd (false≢true (k refl))
    go false false e found k m more = more found

pub filter_same : (q r : Profile → Bool) (ps : List Profile) → All (λ p. q p ≡ r p) ps → filter q ps ≡ filter r ps
filter_same q r [] h = refl
filter_same q r (p ∷ ps) h =
    rw (All-head (λ p. q p ≡ r p) p ps h, filter_same q r ps (All-tail (λ p. q p ≡ r p) p ps h)) refl

pub all_found : (P : Profile → Type 0) (q : Profile → Bool) (first : Profile) (ps : List Profile) → All P ps → find q ps ≡ Some first → P first
all_found P q first [] h is = (cc)
all_found P q first (p ∷ ps) h is = go (q p) is (λ e. all_found P q first ps (All-tail P p ps h) e)
  where
    go : (b : Bool) → cond b (Some p) (find q ps) ≡ Some first → (find q ps ≡ Some first → P first) → P first
    go true e more = let same : p ≡ first = (cc) in subst P same (All-head P p ps h)
    go false e more = more e

pub both : (a b : Bool) → a ≡ true → b ≡ true → (a && b) ≡ true
both a b h k = rw (h, k) refl

pub and_false : (a b : Bool) → b ≡ false → (a && b) ≡ false
and_false true b h = h
and_false false b h = refl

-- ---- the first of a class from a start on

pub of_one : (class : Class) (start : Bound (List ℕ)) (p : Profile) → is_of_from class start p ≡ true → p.class ≡ class
of_one class start p h = one_class p.class class (both_true (same_class p.class class) (is_from_start (slice_cmp nat_cmp) start (sort_key p.pattern)) h).0

-- one that passes is not before another
abbrev IsNotBefore : Class → (start : Bound (List ℕ)) → Profile → Profile → Type 0
IsNotBefore class start x q = is_of_from class start q ≡ true → is_before q x ≡ false

-- none of those that pass is before the first
least : (class : Class) (start : Bound (List ℕ)) (first : Profile) (ps : List Profile) → AreMostSpecificFirst ps
    → find (is_of_from class start) ps ≡ Some first → All (λ p. is_of_from class start p ≡ true → is_before p first ≡ false) ps
least class start first [] order found = All-nil (λ p. is_of_from class start p ≡ true → is_before p first ≡ false)
least class start first (p ∷ ps) order found =
    go (is_of_from class start p) refl found (λ e. least class start first ps (pairs_tail IsEarlier p ps order) e)
  where
    go : (b : Bool) → is_of_from class start p ≡ b → cond b (Some p) (find (is_of_from class start) ps) ≡ Some first
        → (find (is_of_from class start) ps ≡ Some first → All (IsNotBefore class start first) ps) → All (IsNotBefore class start first) (p ∷ ps)
    go true e is more =
        let same : p ≡ first = (cc) in
        subst (λ x. All (IsNotBefore class start x) (p ∷ ps)) same
        (All-cons (IsNotBefore class start p) p ps (λ h. not_before_itself p) (λ k d l h.
        before_once p (get_or ps k d) (pairs_head IsEarlier p ps order k d l (of_one class start p e ∙ sym (of_one class start (get_or ps k d) h)))))
    go false e is more = All-cons (IsNotBefore class start first) p ps (λ h. absurd (false≢true (sym e ∙ h))) (more is)

module _ (class : Class) (resource : List ℕ) (from : Bound (List ℕ)) (first : Profile) (here : is_of_from class from first ≡ true) where
  abbrev first_key : List ℕ
  first_key = sort_key first.pattern

  begun : is_from_start (slice_cmp nat_cmp) from first_key ≡ true
  begun = (both_true (same_class first.class class) (is_from_start (slice_cmp nat_cmp) from first_key) here).1

  -- those after the first are from the start on
  pub after_first : (p : Profile) → same_class p.class class ≡ true → below (sort_key p.pattern) first_key ≡ false → is_of_from class from p ≡ true
  after_first p same after = both _ _ same (onward from first_key (sort_key p.pattern) begun after)

  module _ (past : List ℕ) (further : below first_key past ≡ true) where
    past_first : (p : Profile) → is_of_from class (Included past) p ≡ true → is_of_from class from p ≡ true
    past_first p h =
        let parts = both_true (same_class p.class class) (is_from_start (slice_cmp nat_cmp) (Included past) (sort_key p.pattern)) h in
        after_first p parts.0
        (keys.chain (sort_key p.pattern) past first_key
        (not_true _ (sym (at_most past (sort_key p.pattern)) ∙ parts.1)) (keys.one_way first_key past further))

    not_past : is_of_from class (Included past) first ≡ false
    not_past = and_false _ _ (at_most past first_key ∙ ap not further)

    -- a profile that covers is not skipped
    past_same : FollowsNone (resource ++ 46 ∷ []) first_key past → (p : Profile) → IsPattern p.pattern
        → (is_of_from class from p ≡ true → is_before p first ≡ false)
        → is_covering_from class resource (Included past) p ≡ is_covering_from class resource from p
    past_same none p valid later = both_ways _ _ there back
      where
        there : is_covering_from class resource (Included past) p ≡ true → is_covering_from class resource from p ≡ true
        there h =
            let parts = both_true (is_of_from class (Included past) p) (covers_text p.pattern resource) h in
            both _ _ (past_first p parts.0) parts.1

        back : is_covering_from class resource from p ≡ true → is_covering_from class resource (Included past) p ≡ true
        back h =
            let parts = both_true (is_of_from class from p) (covers_text p.pattern resource) h in
            let same = both_true (same_class p.class class) (is_from_start (slice_cmp nat_cmp) from (sort_key p.pattern)) parts.0 in
            both _ _ (both _ _ same.0 (at_most past (sort_key p.pattern) ∙ ap not (go (below (sort_key p.pattern) past) refl parts))) parts.1
          where
            go : (b : Bool) → below (sort_key p.pattern) past ≡ b
                → (is_of_from class from p ≡ true) × (covers_text p.pattern resource ≡ true) → b ≡ false
            go true e parts =
                absurd (false≢true (sym (none (sort_key p.pattern) (later parts.0) e)
                ∙ covered_names_follow p.pattern resource valid ((covers_is p resource).0 parts.1)))
            go false e parts = refl

  pub next_first : (p : Profile) → is_of_from class (Excluded first_key) p ≡ true → is_of_from class from p ≡ true
  next_first p h =
      let parts = both_true (same_class p.class class) (is_from_start (slice_cmp nat_cmp) (Excluded first_key) (sort_key p.pattern)) h in
      after_first p parts.0 (keys.one_way first_key (sort_key p.pattern) parts.1)

  pub not_next : is_of_from class (Excluded first_key) first ≡ false
  not_next = and_false _ _ (not_before_itself first)

  next_same : IsPattern first.pattern → covers_text first.pattern resource ≡ false → (p : Profile) → IsPattern p.pattern
      → (is_of_from class from p ≡ true → is_before p first ≡ false)
      → is_covering_from class resource (Excluded first_key) p ≡ is_covering_from class resource from p
  next_same pattern uncovered p valid later = both_ways _ _ there back
    where
      there : is_covering_from class resource (Excluded first_key) p ≡ true → is_covering_from class resource from p ≡ true
      there h =
          let parts = both_true (is_of_from class (Excluded first_key) p) (covers_text p.pattern resource) h in
          both _ _ (next_first p parts.0) parts.1

      back : is_covering_from class resource from p ≡ true → is_covering_from class resource (Excluded first_key) p ≡ true
      back h =
          let parts = both_true (is_of_from class from p) (covers_text p.pattern resource) h in
          let same = both_true (same_class p.class class) (is_from_start (slice_cmp nat_cmp) from (sort_key p.pattern)) parts.0 in
          both _ _ (both _ _ same.0 (go (below first_key (sort_key p.pattern)) refl parts)) parts.1
        where
          go : (b : Bool) → below first_key (sort_key p.pattern) ≡ b
              → (is_of_from class from p ≡ true) × (covers_text p.pattern resource ≡ true) → b ≡ true
          go true e parts = refl
          go false e parts =
              let same_pattern = keys_differ first.pattern p.pattern pattern valid (tied first_key (sort_key p.pattern) e (later parts.0)) in
              absurd (false≢true (sym uncovered ∙ ap (λ x. covers_text x resource) same_pattern ∙ parts.1))

-- if the first of the class from a start on covers, it is the first that does
covers_first : (class : Class) (resource : List ℕ) (from : Bound (List ℕ)) (first : Profile) → covers_text first.pattern resource ≡ true
    → (ps : List Profile) → find (is_of_from class from) ps ≡ Some first → Some first ≡ find (is_covering_from class resource from) ps
covers_first class resource from first covered [] is = (cc)
covers_first class resource from first covered (p ∷ ps) is =
    go (is_of_from class from p) refl is (λ e. covers_first class resource from first covered ps e)
  where
    go : (b : Bool) → is_of_from class from p ≡ b → cond b (Some p) (find (is_of_from class from) ps) ≡ Some first
        → (find (is_of_from class from) ps ≡ Some first → Some first ≡ find (is_covering_from class resource from) ps)
        → Some first ≡ find (is_covering_from class resource from) (p ∷ ps)
    go true e is more =
        let same : p ≡ first = (cc) in
        let covers : covers_text p.pattern resource ≡ true = ap (λ x. covers_text x.pattern resource) same ∙ covered in
        rw (e, covers) (ap Some (sym same))
    go false e is more = rw e (more is)

-- ---- what a search knows

module _ (class : Class) (resource : List ℕ) (from : Bound (List ℕ)) (first : Profile) (ps : List Profile) (sound : AreProfiles ps)
    (order : AreMostSpecificFirst ps) (found : find (is_of_from class from) ps ≡ Some first) where
  here : is_of_from class from first ≡ true
  here = passes-find (is_of_from class from) first ps found

  later : All (λ p. is_of_from class from p ≡ true → is_before p first ≡ false) ps
  later = least class from first ps order found

  module _ (past : List ℕ) (further : below (sort_key first.pattern) past ≡ true) where
    pub skips : FollowsNone (resource ++ 46 ∷ []) (sort_key first.pattern) past
        → find (is_covering_from class resource (Included past)) ps ≡ find (is_covering_from class resource from) ps
    skips none = find_same _ _ ps (λ k d l.
        past_same class resource from first here past further none (get_or ps k d) (sound.patterns k d l) (later k d l))

    pub skips_fewer : length (filter (is_of_from class (Included past)) ps) < length (filter (is_of_from class from) ps)
    skips_fewer = fewer _ _ first ps found (not_past class resource from first here past further) (λ k d l.
        past_first class resource from first here past further (get_or ps k d))

  pub passes : covers_text first.pattern resource ≡ false
      → find (is_covering_from class resource (Excluded (sort_key first.pattern))) ps ≡ find (is_covering_from class resource from) ps
  passes uncovered = find_same _ _ ps (λ k d l.
      next_same class resource from first here (all_found (λ p. IsPattern p.pattern) (is_of_from class from) first ps sound.patterns found) uncovered
      (get_or ps k d) (sound.patterns k d l) (later k d l))

  pub passes_fewer : length (filter (is_of_from class (Excluded (sort_key first.pattern))) ps) < length (filter (is_of_from class from) ps)
  passes_fewer = fewer _ _ first ps found (not_next class resource from first here) (λ k d l. next_first class resource from first here (get_or ps k d))

  -- the first that passes covers
  pub found_covering : covers_text first.pattern resource ≡ true → Some first ≡ find (is_covering_from class resource from) ps
  found_covering covered = covers_first class resource from first covered ps found

-- none of the class is left
pub none_covering : (class : Class) (resource : List ℕ) (from : Bound (List ℕ)) (ps : List Profile) → find (is_of_from class from) ps ≡ None
    → None ≡ find (is_covering_from class resource from) ps
none_covering class resource from [] is = refl
none_covering class resource from (p ∷ ps) is = go (is_of_from class from p) refl is (λ e. none_covering class resource from ps e)
  where
    go : (b : Bool) → is_of_from class from p ≡ b → cond b (Some p) (find (is_of_from class from) ps) ≡ None
        → (find (is_of_from class from) ps ≡ None → None ≡ find (is_covering_from class resource from) ps)
        → None ≡ find (is_covering_from class resource from) (p ∷ ps)
    go true e is more = (cc)
    go false e is more = rw e (more is)
