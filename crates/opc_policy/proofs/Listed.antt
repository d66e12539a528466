-- The profiles that cover, one after the other.
use Rattle.std.proofs.Common.{
  ◌≡◌,
  ℕ,
  Bool,
  true,
  false,
  ◌&&◌,
  cond,
  List,
  [],
  ◌∷◌,
  ◌++◌,
  ◌<◌,
  None,
  length,
  arith,
  append-nil,
  filter,
  get_or,
  map,
  Some,
  find,
  refl,
  sym,
  ap,
  ◌∙◌,
  subst,
  All,
  append_assoc,
}
use Rattle.std.specs.BTreeMap.Range.{is_from_start}
use Rattle.std.specs.Cmp.{both_ways}
use Rattle.std.specs.Cmp.Lexicographic.{slice_cmp}
use Rattle.std.specs.Ordering.{nat_cmp}
use Rattle.std.specs.declared.ops.Bound.{Bound}
use Rattle.std.specs.declared.ops.Bound.TheVariants.{Excluded, Unbounded}
use Rattle.std.proofs.lemmas.Bool.{false≢true}
use Rattle.opc_names.specs.Authority.{same_class}
use Rattle.opc_names.specs.Order.{sort_key}
use Rattle.opc_names.specs.Patterns.{covers_text}
use Rattle.opc_names.specs.declared.class.Class.{Class}
use Rattle.opc_policy.proofs.FirstCovering.{filter_both}
use Rattle.opc_policy.proofs.InOrder.{IsEarlier, both_true, one_class, pairs_head, pairs_tail}
use Rattle.opc_policy.proofs.Skipped.{all_found, below, both, filter_same, find_same, keys, next_first, not_next, of_one}
use Rattle.opc_policy.specs.Explained.{covering_patterns, is_covering, is_covering_from}
use Rattle.opc_policy_members.proofs.Maps.{passes-find}
use Rattle.opc_policy_members.specs.Profiles.{AreMostSpecificFirst, is_of_from}
use Rattle.opc_policy_members.specs.declared.profile.Profile.{Profile}

module _ (class : Class) (resource : List ℕ) where
  from_all : (p : Profile) → is_covering_from class resource Unbounded p ≡ is_covering class resource p
  from_all p = go (same_class p.class class)
    where
      go : (b : Bool) → ((b && true) && covers_text p.pattern resource) ≡ (b && covers_text p.pattern resource)
      go true = refl
      go false = refl

  -- without a start all are found
  pub first_of_all : (ps : List Profile) → find (is_covering_from class resource Unbounded) ps ≡ find (is_covering class resource) ps
  first_of_all ps = find_same _ _ ps (λ k d l. from_all (get_or ps k d))

  abbrev pub patterns_from : Bound (List ℕ) → List Profile → List (List ℕ)
  patterns_from start ps = map (λ (p : Profile). p.pattern) (filter (is_covering_from class resource start) ps)

  pub all_patterns : (ps : List Profile) → patterns_from Unbounded ps ≡ covering_patterns class resource ps
  all_patterns ps =
      ap (map (λ (p : Profile). p.pattern))
      (filter_same (is_covering_from class resource Unbounded) (is_covering class resource) ps (λ k d l. from_all (get_or ps k d))
      ∙ sym (filter_both (λ (p : Profile). same_class p.class class) (λ (p : Profile). covers_text p.pattern resource) ps))

  module _ (start : Bound (List ℕ)) where
    abbrev after : Profile → Profile → Bool
    after x q = is_covering_from class resource (Excluded (sort_key x.pattern)) q

    -- after the first the others come
    others : (p : Profile) (ps : List Profile) → All (IsEarlier p) ps → is_of_from class start p ≡ true
        → All (λ q. is_covering_from class resource start q ≡ after p q) ps
    others p ps earlier here k d l = both_ways _ _ there back
      where
        there : is_covering_from class resource start (get_or ps k d) ≡ true → after p (get_or ps k d) ≡ true
        there h =
            let parts = both_true (is_of_from class start (get_or ps k d)) (covers_text (get_or ps k d).pattern resource) h in
            let same = both_true (same_class (get_or ps k d).class class) _ parts.0 in
            both _ _ (both _ _ same.0 (earlier k d l (of_one class start p here ∙ sym (of_one class start (get_or ps k d) parts.0)))) parts.1

        back : after p (get_or ps k d) ≡ true → is_covering_from class resource start (get_or ps k d) ≡ true
        back h =
            let parts = both_true (is_of_from class (Excluded (sort_key p.pattern)) (get_or ps k d)) (covers_text (get_or ps k d).pattern resource) h in
            both _ _ (next_first class resource start p here (get_or ps k d) parts.0) parts.1

    one_more : (first : Profile) (ps : List Profile) → AreMostSpecificFirst ps → find (is_covering_from class resource start) ps ≡ Some first
        → filter (is_covering_from class resource start) ps ≡ first ∷ filter (after first) ps
    one_more first [] order is = (cc)
    one_more first (p ∷ ps) order is =
        go (is_covering_from class resource start p) refl is (λ e. one_more first ps (pairs_tail IsEarlier p ps order) e)
      where
        go : (b : Bool) → is_covering_from class resource start p ≡ b
            → cond b (Some p) (find (is_covering_from class resource start) ps) ≡ Some first
            → (find (is_covering_from class resource start) ps ≡ Some first
            → filter (is_covering_from class resource start) ps ≡ first ∷ filter (after first) ps)
            → filter (is_covering_from class resource start) (p ∷ ps) ≡ first ∷ filter (after first) (p ∷ ps)
        go true e is more =
            let same : p ≡ first = (cc) in
            let here = (both_true (is_of_from class start p) (covers_text p.pattern resource) e).0 in
            let itself : after p p ≡ false = rw (not_next class resource start p here) refl in
            subst (λ x. filter (is_covering_from class resource start) (p ∷ ps) ≡ x ∷ filter (after x) (p ∷ ps)) same
            (rw (e, itself) (ap (λ rest. p ∷ rest) (filter_same _ _ ps (others p ps (pairs_head IsEarlier p ps order) here))))
        go false e is more =
            let here = (both_true (is_of_from class start first) (covers_text first.pattern resource)
            (passes-find (is_covering_from class resource start) first ps is)).0 in
            let earlier = all_found (IsEarlier p) (is_covering_from class resource start) first ps (pairs_head IsEarlier p ps order) is in
            rw (e, before (of_one class start first here) earlier) (more is)
          where
            before : first.class ≡ class → IsEarlier p first → after first p ≡ false
            before of earlier = unlisted (after first p) refl
              where
                unlisted : (b : Bool) → after first p ≡ b → b ≡ false
                unlisted true h =
                    let parts = both_true (is_of_from class (Excluded (sort_key first.pattern)) p) (covers_text p.pattern resource) h in
                    let same = both_true (same_class p.class class) (below (sort_key first.pattern) (sort_key p.pattern)) parts.0 in
                    absurd (false≢true (sym (keys.one_way (sort_key p.pattern) (sort_key first.pattern)
                    (earlier (one_class p.class class same.0 ∙ sym of))) ∙ same.1))
                unlisted false h = refl

    pub one_more_pattern : (first : Profile) (ps : List Profile) (done : List (List ℕ)) → AreMostSpecificFirst ps
        → find (is_covering_from class resource start) ps ≡ Some first
        → (done ++ first.pattern ∷ []) ++ patterns_from (Excluded (sort_key first.pattern)) ps ≡ done ++ patterns_from start ps
    one_more_pattern first ps done order is =
        append_assoc done (first.pattern ∷ []) (patterns_from (Excluded (sort_key first.pattern)) ps)
        ∙ ap (λ found. done ++ map (λ (p : Profile). p.pattern) found) (sym (one_more first ps order is))

    none_listed : (ps : List Profile) → find (is_covering_from class resource start) ps ≡ None → filter (is_covering_from class resource start) ps ≡ []
    none_listed [] is = refl
    none_listed (p ∷ ps) is = go (is_covering_from class resource start p) refl is (λ e. none_listed ps e)
      where
        go : (b : Bool) → is_covering_from class resource start p ≡ b
            → cond b (Some p) (find (is_covering_from class resource start) ps) ≡ None
            → (find (is_covering_from class resource start) ps ≡ None → filter (is_covering_from class resource start) ps ≡ [])
            → filter (is_covering_from class resource start) (p ∷ ps) ≡ []
        go true e is more = (cc)
        go false e is more = rw e (more is)

    -- if no more cover, all are listed
    pub no_more_patterns : (ps : List Profile) (done : List (List ℕ)) → find (is_covering_from class resource start) ps ≡ None
        → done ≡ done ++ patterns_from start ps
    no_more_patterns ps done is = sym (ap (λ found. done ++ map (λ (p : Profile). p.pattern) found) (none_listed ps is) ∙ append-nil done)

    pub one_fewer : (first : Profile) (ps : List Profile) → AreMostSpecificFirst ps → find (is_covering_from class resource start) ps ≡ Some first
        → length (filter (after first) ps) < length (filter (is_covering_from class resource start) ps)
    one_fewer first ps order is = rw (one_more first ps order is) (omega arith)
