-- Patterns whose last characters differ cover no resource in common.
use Rattle.std.proofs.Common.{
  ◌≡◌,
  ◌≢◌,
  ◌≤◌,
  ◌<◌,
  ◌+◌,
  ◌∙◌,
  ap,
  sym,
  refl,
  subst,
  ℕ,
  Bool,
  true,
  false,
  ◌||◌,
  List,
  [],
  ◌∷◌,
  ◌++◌,
  append-nil,
  append_assoc,
  drop,
  get_or,
  length,
  take,
  arith,
}
use Rattle.std.specs.List.{AllByRecursion, list_all, list_any}
use Rattle.std.proofs.lemmas.List.{take_all, take_more}
use Rattle.opc_names.specs.Names.{qualifiers}
use Rattle.opc_names.specs.Patterns.{CoversText, covers_text}
use Rattle.opc_names.specs.Walk.{IsQualifier}
use Rattle.opc_names.proofs.Computed.{text_computes}
use Rattle.opc_policy_witness.specs.Ends.{
  AreNearThese,
  CannotMeet,
  NoneCoveredByAll,
  NoneInCommon,
  NoneInCommonWith,
  is_fixed,
}
use Rattle.opc_policy_witness.proofs.Differing.{and_true, covered_ends, last_same, same_place}
use Rattle.opc_policy_witness.proofs.Names.{both}

-- ---- two patterns

ends_so : (p p' : List ℕ) (c : ℕ) (end r : List ℕ) → p ≡ p' ++ c ∷ [] → is_fixed c ≡ true → list_all is_fixed end ≡ true
    → AllByRecursion IsQualifier (qualifiers (p ++ end)) → CoversText (p ++ end) r
    → (before : List (List ℕ)) × (y : List ℕ) × (qualifiers r ≡ before ++ (y ++ c ∷ end) ∷ [])
ends_so p p' c end r is h ends all covers =
    let text : p ++ end ≡ p' ++ c ∷ end = ap (λ l. l ++ end) is ∙ append_assoc p' (c ∷ []) end in
    covered_ends p' r end c (and_true (is_fixed c) (list_all is_fixed end) h ends)
    (subst (λ (l : List ℕ). AllByRecursion IsQualifier (qualifiers l)) text all)
    (subst (λ (l : List ℕ). CoversText l r) text covers)

pub differ : (p q p' q' : List ℕ) (c d : ℕ) → p ≡ p' ++ c ∷ [] → q ≡ q' ++ d ∷ [] → is_fixed c ≡ true → is_fixed d ≡ true → c ≢ d → CannotMeet p q
differ p q p' q' c d is_p is_q h k other end ends all also r covers covered =
    let found = ends_so p p' c end r is_p h ends all covers in
    let too = ends_so q q' d end r is_q k ends also covered in
    other (same_place found.1 too.1 c d end (last_same found.0 too.0 (found.1 ++ c ∷ end) (too.1 ++ d ∷ end) (sym found.2 ∙ too.2)))

pub alike : (p q p' q' : List ℕ) (c d : ℕ) → p ≡ p' ++ c ∷ [] → q ≡ q' ++ d ∷ [] → is_fixed c ≡ true → c ≡ d → CannotMeet p' q' → CannotMeet p q
alike p q p' q' c d is_p is_q h same none end ends all also r covers covered =
    let text : p ++ end ≡ p' ++ c ∷ end = ap (λ l. l ++ end) is_p ∙ append_assoc p' (c ∷ []) end in
    let name : q ++ end ≡ q' ++ c ∷ end =
    ap (λ l. l ++ end) is_q ∙ append_assoc q' (d ∷ []) end ∙ ap (λ x. q' ++ x ∷ end) (sym same) in
    none (c ∷ end) (and_true (is_fixed c) (list_all is_fixed end) h ends)
    (subst (λ (l : List ℕ). AllByRecursion IsQualifier (qualifiers l)) text all)
    (subst (λ (l : List ℕ). AllByRecursion IsQualifier (qualifiers l)) name also) r
    (subst (λ (l : List ℕ). CoversText l r) text covers) (subst (λ (l : List ℕ). CoversText l r) name covered)

pub none_in_common : (p q : List ℕ) → AllByRecursion IsQualifier (qualifiers p) → AllByRecursion IsQualifier (qualifiers q) → CannotMeet p q
    → NoneInCommon p q
none_in_common p q all also none r covers covered =
    none [] refl (subst (λ (l : List ℕ). AllByRecursion IsQualifier (qualifiers l)) (sym (append-nil p)) all)
    (subst (λ (l : List ℕ). AllByRecursion IsQualifier (qualifiers l)) (sym (append-nil q)) also) r
    (subst (λ (l : List ℕ). CoversText l r) (sym (append-nil p)) covers) (subst (λ (l : List ℕ). CoversText l r) (sym (append-nil q)) covered)

-- ---- one pattern, and all others

it_covers : (p r : List ℕ) → covers_text p r ≡ true → CoversText p r
it_covers p r h = (text_computes (covers_text p r) p r refl).0 h

pub none_with_first : (p q : List ℕ) (others : List (List ℕ)) → 1 ≤ length others → q ≡ get_or others 0 q → NoneInCommon p q
    → NoneInCommonWith p others
none_with_first p q [] some is none r covers all = absurd (omega (arith, some))
none_with_first p q (o ∷ others) some is none r covers all =
    none r covers (it_covers q r (ap (λ x. covers_text x r) is ∙ (both (covers_text o r) (list_all (λ (x : List ℕ). covers_text x r) others) all).0))

pub none_with_rest : (p : List ℕ) (others rest : List (List ℕ)) → 1 ≤ length others → rest ≡ drop 1 others → NoneInCommonWith p rest
    → NoneInCommonWith p others
none_with_rest p [] rest some is none r covers all = absurd (omega (arith, some))
none_with_rest p (o ∷ others) rest some is none r covers all =
    none r covers (ap (list_all (λ (x : List ℕ). covers_text x r)) is
    ∙ (both (covers_text o r) (list_all (λ (x : List ℕ). covers_text x r) others) all).1)

pub none_by_first : (p : List ℕ) (patterns rest : List (List ℕ)) → 1 ≤ length patterns → p ≡ get_or patterns 0 p → rest ≡ drop 1 patterns
    → NoneInCommonWith p rest → NoneCoveredByAll patterns
none_by_first p [] rest some is those none r all = absurd (omega (arith, some))
none_by_first p (o ∷ patterns) rest some is those none r all =
    let parts = both (covers_text o r) (list_all (λ (x : List ℕ). covers_text x r) patterns) all in
    none r (it_covers p r (ap (λ x. covers_text x r) is ∙ parts.0)) (ap (list_all (λ (x : List ℕ). covers_text x r)) those ∙ parts.1)

pub none_by_rest : (patterns rest : List (List ℕ)) → 1 ≤ length patterns → rest ≡ drop 1 patterns → NoneCoveredByAll rest
    → NoneCoveredByAll patterns
none_by_rest [] rest some is none r all = absurd (omega (arith, some))
none_by_rest (o ∷ patterns) rest some is none r all =
    none r (ap (list_all (λ (x : List ℕ). covers_text x r)) is
    ∙ (both (covers_text o r) (list_all (λ (x : List ℕ). covers_text x r) patterns) all).1)

-- ---- those that are near

any_append : (test : List ℕ → Bool) (xs ys : List (List ℕ)) → list_any test (xs ++ ys) ≡ (list_any test xs || list_any test ys)
any_append test [] ys = refl
any_append test (x ∷ xs) ys = ap (λ b. test x || b) (any_append test xs ys) ∙ grouped (test x) (list_any test xs) (list_any test ys)
  where
    grouped : (a b c : Bool) → (a || (b || c)) ≡ ((a || b) || c)
    grouped true b c = refl
    grouped false b c = refl

or_false : (a b : Bool) → b ≡ false → (a || b) ≡ a
or_false true b h = refl
or_false false b h = h

last_taken : (patterns : List (List ℕ)) (i : ℕ) (p : List ℕ) → i < length patterns → p ≡ get_or patterns i p
    → take (i + 1) patterns ≡ take i patterns ++ p ∷ []
last_taken patterns i p low is = take_more patterns i p low ∙ ap (λ q. take i patterns ++ q ∷ []) (sym is)

pub one_near : (include patterns near next : List (List ℕ)) (i : ℕ) (p : List ℕ) → i < length patterns → p ≡ get_or patterns i p
    → next ≡ near ++ p ∷ [] → AreNearThese include near (take i patterns) → AreNearThese include next (take (i + 1) patterns)
one_near include patterns near next i p low is added so_far r all =
    ap (list_any covers) added ∙ any_append covers near (p ∷ []) ∙ ap (λ b. b || list_any covers (p ∷ [])) (so_far r all)
    ∙ sym (any_append covers (take i patterns) (p ∷ [])) ∙ ap (list_any covers) (sym (last_taken patterns i p low is))
  where
    covers : List ℕ → Bool
    covers = λ (q : List ℕ). covers_text q r

pub one_far : (include patterns near : List (List ℕ)) (i : ℕ) (p : List ℕ) → i < length patterns → p ≡ get_or patterns i p
    → NoneInCommonWith p include → AreNearThese include near (take i patterns) → AreNearThese include near (take (i + 1) patterns)
one_far include patterns near i p low is none so_far r all =
    so_far r all ∙ sym (or_false (list_any covers (take i patterns)) (list_any covers (p ∷ [])) far)
    ∙ sym (any_append covers (take i patterns) (p ∷ [])) ∙ ap (list_any covers) (sym (last_taken patterns i p low is))
  where
    covers : List ℕ → Bool
    covers = λ (q : List ℕ). covers_text q r

    uncovered : (b : Bool) → covers_text p r ≡ b → b ≡ false
    uncovered true e = absurd (none r (it_covers p r e) all)
    uncovered false e = refl

    far : list_any covers (p ∷ []) ≡ false
    far = or_false (covers_text p r) false refl ∙ uncovered (covers_text p r) refl

pub all_near : (include patterns near : List (List ℕ)) (i : ℕ) → length patterns ≤ i → AreNearThese include near (take i patterns)
    → AreNearThese include near patterns
all_near include patterns near i high so_far = subst (λ l. AreNearThese include near l) (take_all i patterns high) so_far
