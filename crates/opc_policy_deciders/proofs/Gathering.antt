-- Patterns that may cover what begins with a text.
use Rattle.std.proofs.Common.{
  ◌≡◌,
  ◌⊎◌,
  inl,
  inr,
  ◌≤◌,
  ◌<◌,
  ◌+◌,
  ◌∙◌,
  ◌||◌,
  ap,
  sym,
  refl,
  subst,
  ℕ,
  zero,
  suc,
  Bool,
  true,
  false,
  List,
  [],
  ◌∷◌,
  ◌++◌,
  All,
  append-nil,
  append_assoc,
  drop,
  get_or,
  length,
  take,
  arith,
}
use Rattle.std.specs.List.{AllPairs, list_all, list_any}
use Rattle.std.proofs.lemmas.List.{take_all, take_more}
use Rattle.opc_names.specs.Names.{IsPattern}
use Rattle.opc_names.specs.Order.{head, sort_key}
use Rattle.opc_names.specs.Patterns.{covers_text, tokens}
use Rattle.opc_names.proofs.Computed.{text_computes}
use Rattle.opc_names.proofs.Heads.{heads_are_prefixes}
use Rattle.opc_names_keys.specs.Follows.{follows}
use Rattle.opc_policy_members.specs.declared.policy.Policy.{Policy}
use Rattle.opc_policy_deciders.specs.Decided.{ArePatternsOf}
use Rattle.opc_policy_deciders.specs.Near.{IsEarlier}
use Rattle.opc_policy_deciders.specs.Pairs.{AreNearAll, AreNearText, BeginAll, BeginsWith}
use Rattle.opc_policy_deciders.specs.Places.{DiffersBetween}
use Rattle.opc_policy_deciders.proofs.Between.{both_true}
use Rattle.opc_policy_deciders.proofs.BothSides.{any_append}
use Rattle.opc_policy_deciders.proofs.Differing.{not_covered}
use Rattle.opc_policy_deciders.proofs.Finding.{all_ordered}

-- ---- what all begins with that some patterns all cover

pub with_head : (include rest : List (List ℕ)) (p text more : List ℕ) → All IsPattern include → 1 ≤ length include → p ≡ get_or include 0 p
    → rest ≡ drop 1 include → (text ≡ head (tokens p)) ⊎ (text ≡ more) → BeginAll rest more → BeginAll include text
with_head [] rest p text more valid some is those either later r covered = absurd (omega (arith, some))
with_head (q ∷ include) rest p text more valid some is those either later r covered = go either
  where
    both : (covers_text q r ≡ true) × (list_all (λ (q : List ℕ). covers_text q r) include ≡ true)
    both = both_true (covers_text q r) (list_all (λ (q : List ℕ). covers_text q r) include) covered

    begins : BeginsWith (head (tokens p)) r
    begins =
        heads_are_prefixes p r (subst IsPattern (sym is) (valid 0 q (omega arith)))
        ((text_computes (covers_text p r) p r refl).0 (ap (λ x. covers_text x r) is ∙ both.0))

    go : (text ≡ head (tokens p)) ⊎ (text ≡ more) → BeginsWith text r
    go (inl same) = subst (λ t. BeginsWith t r) (sym same) begins
    go (inr same) = subst (λ t. BeginsWith t r) (sym same) (later r (ap (list_all (λ (q : List ℕ). covers_text q r)) those ∙ both.1))

-- ---- those that are passed

unpassed : (test : List ℕ → Bool) (xs : List (List ℕ)) (from to : ℕ) → from ≤ to
    → ((k : ℕ) (d : List ℕ) → from ≤ k → k < to → k < length xs → test (get_or xs k d) ≡ false)
    → list_any test (take to xs) ≡ list_any test (take from xs)
unpassed test [] zero zero up fails = refl
unpassed test [] zero (suc to) up fails = refl
unpassed test [] (suc from) zero up fails = refl
unpassed test [] (suc from) (suc to) up fails = refl
unpassed test (x ∷ xs) zero zero up fails = refl
unpassed test (x ∷ xs) zero (suc to) up fails =
    ap (λ b. b || list_any test (take to xs)) (fails 0 x (omega arith) (omega arith) (omega arith))
    ∙ unpassed test xs zero to (omega arith) (λ k d low high there. fails (suc k) d (omega arith) (omega (arith, high)) (omega (arith, there)))
unpassed test (x ∷ xs) (suc from) zero up fails = absurd (omega (arith, up))
unpassed test (x ∷ xs) (suc from) (suc to) up fails =
    ap (λ b. test x || b) (unpassed test xs from to (omega (arith, up))
    (λ k d low high there. fails (suc k) d (omega (arith, low)) (omega (arith, high)) (omega (arith, there))))

uncovered : (q text r : List ℕ) → IsPattern q → BeginsWith text r → follows (sort_key q) text ≡ false
    → covers_text q r ≡ false
uncovered q text r valid begins differs = go (covers_text q r) refl
  where
    go : (b : Bool) → covers_text q r ≡ b → b ≡ false
    go true is = absurd (not_covered q text begins.0 r valid begins.1 differs ((text_computes (covers_text q r) q r refl).0 is))
    go false is = refl

pub none_near : (text : List ℕ) (patterns : List (List ℕ)) (from to : ℕ) (now : List (List ℕ)) → All IsPattern patterns → from ≤ to
    → DiffersBetween text patterns from to → (more : List (List ℕ)) → AreNearText text now (more ++ take from patterns)
    → AreNearText text now (more ++ take to patterns)
none_near text patterns from to now valid up differs more so_far r begins =
    so_far r begins ∙ any_append covers more (take from patterns)
    ∙ ap (λ b. list_any covers more || b) (sym (unpassed covers patterns from to up
    (λ k d low high there. uncovered (get_or patterns k d) text r (valid k d there) begins (differs k low high d))))
    ∙ sym (any_append covers more (take to patterns))
  where
    covers : List ℕ → Bool
    covers = λ (q : List ℕ). covers_text q r

-- ---- one more

pub one_near : (text : List ℕ) (patterns : List (List ℕ)) (place : ℕ) (p : List ℕ) (now next : List (List ℕ)) → place < length patterns
    → p ≡ get_or patterns place p → next ≡ now ++ p ∷ [] → (more : List (List ℕ)) → AreNearText text now (more ++ take place patterns)
    → AreNearText text next (more ++ take (place + 1) patterns)
one_near text patterns place p now next low is added more so_far r begins =
    ap (list_any covers) added ∙ any_append covers now (p ∷ []) ∙ ap (λ b. b || list_any covers (p ∷ [])) (so_far r begins)
    ∙ sym (any_append covers (more ++ take place patterns) (p ∷ []))
    ∙ ap (list_any covers) (append_assoc more (take place patterns) (p ∷ []) ∙ ap (λ l. more ++ l) (sym last))
  where
    covers : List ℕ → Bool
    covers = λ (q : List ℕ). covers_text q r

    last : take (place + 1) patterns ≡ take place patterns ++ p ∷ []
    last = take_more patterns place p low ∙ ap (λ q. take place patterns ++ q ∷ []) (sym is)

pub near_itself : (text : List ℕ) (now patterns : List (List ℕ)) → AreNearText text now (now ++ take 0 patterns)
near_itself text now patterns r begins = ap (list_any (λ (q : List ℕ). covers_text q r)) (sym (append-nil now))

pub near_in_the_end : (text : List ℕ) (now more patterns : List (List ℕ)) (place : ℕ) → length patterns ≤ place
    → AreNearText text now (more ++ take place patterns) → AreNearText text now (more ++ patterns)
near_in_the_end text now more patterns place all near =
    subst (λ l. AreNearText text now (more ++ l)) (take_all place patterns all) near

-- those of one list, and those of another
pub near_both : (include : List (List ℕ)) (text : List ℕ) (none first all one other : List (List ℕ)) → BeginAll include text → none ≡ []
    → AreNearText text first (none ++ one) → AreNearText text all (first ++ other) → AreNearAll include all (one ++ other)
near_both include text none first all one other begins is near more r covered =
    more r (begins r covered) ∙ any_append covers first other
    ∙ ap (λ b. b || list_any covers other) (near r (begins r covered) ∙ ap (λ l. list_any covers (l ++ one)) is)
    ∙ sym (any_append covers one other)
  where
    covers : List ℕ → Bool
    covers = λ (q : List ℕ). covers_text q r

-- ---- those before a place are in order

pub are_in_order : (p : Policy) (patterns : List (List ℕ)) → ArePatternsOf p patterns → AllPairs IsEarlier patterns
are_in_order p patterns are = subst (AllPairs IsEarlier) (sym are.all) (all_ordered p are.in_order)

pub in_order_before : (p : Policy) (patterns before : List (List ℕ)) (at : ℕ) → ArePatternsOf p patterns → before ≡ take at patterns
    → AllPairs IsEarlier before
in_order_before p patterns before at are is = subst (AllPairs IsEarlier) (sym is) front
  where
    up : AllPairs IsEarlier patterns
    up = are_in_order p patterns are

    fewer : (xs : List (List ℕ)) (n j : ℕ) → j < length (take n xs) → (j < n) × (j < length xs)
    fewer xs zero j low = absurd (omega (arith, low))
    fewer [] (suc n) j low = absurd (omega (arith, low))
    fewer (x ∷ xs) (suc n) zero low = (omega arith, omega arith)
    fewer (x ∷ xs) (suc n) (suc j) low =
        let more = fewer xs n j (omega (arith, low)) in
        let first = more.0 in
        let second = more.1 in
        (omega (arith, first), omega (arith, second))

    same : (xs : List (List ℕ)) (n j : ℕ) (d : List ℕ) → j < n → get_or (take n xs) j d ≡ get_or xs j d
    same xs zero j d low = absurd (omega (arith, low))
    same [] (suc n) j d low = refl
    same (x ∷ xs) (suc n) zero d low = refl
    same (x ∷ xs) (suc n) (suc j) d low = same xs n j d (omega (arith, low))

    front : AllPairs IsEarlier (take at patterns)
    front i j d less high =
        let inside = fewer patterns at j high in
        let before = inside.0 in
        subst (λ x. IsEarlier x (get_or (take at patterns) j d)) (sym (same patterns at i d (omega (arith, less, before))))
        (subst (λ y. IsEarlier (get_or patterns i d) y) (sym (same patterns at j d before)) (up i j d less inside.1))
