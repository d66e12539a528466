-- What one profile of a policy and one of another decide both.
use Rattle.std.proofs.Common.{
  ◌≡◌,
  ◌∙◌,
  ap,
  ap₂,
  sym,
  refl,
  subst,
  ℕ,
  zero,
  suc,
  Bool,
  true,
  false,
  ◌&&◌,
  ◌||◌,
  List,
  [],
  ◌∷◌,
  ◌++◌,
  append-nil,
  Option,
  Some,
  None,
  Result,
  All,
  take,
  drop,
  arith,
}
use Rattle.std.specs.Prelude.{IfOk, is_none, ◌↔◌}
use Rattle.std.specs.Cmp.Lexicographic.{pointwise}
use Rattle.std.specs.List.{list_all, list_any, slice_get}
use Rattle.std.specs.Str.{bytes_eq}
use Rattle.std.proofs.lemmas.Slice.Eq.{bytes_eq-Decides}
use Rattle.opc_names.specs.Names.{IsPattern}
use Rattle.opc_names.specs.Patterns.{covers_text}
use Rattle.opc_policy_members.specs.declared.policy.Policy.{Policy}
use Rattle.opc_policy_deciders.specs.Between.{IsBetween}
use Rattle.opc_policy_deciders.specs.Decided.{ArePatternsOf, AreShortest, IsDecided}
use Rattle.opc_policy_deciders.specs.Forms.{AskedForm, forms}
use Rattle.opc_policy_deciders.specs.Pairs.{AreNearAll, CoverAlike, IsDecidedByBoth}
use Rattle.opc_policy_deciders.proofs.Between.{both_true, none_true}
use Rattle.opc_policy_deciders.proofs.Finding.{all_before, decided_between, then_ok}
use Rattle.opc_policy_deciders.proofs.Listing.{all_same}

all_append : (test : List ℕ → Bool) (xs ys : List (List ℕ)) → list_all test (xs ++ ys) ≡ (list_all test xs && list_all test ys)
all_append test [] ys = refl
all_append test (x ∷ xs) ys = ap (λ b. test x && b) (all_append test xs ys) ∙ grouped (test x) (list_all test xs) (list_all test ys)
  where
    grouped : (a b c : Bool) → (a && (b && c)) ≡ ((a && b) && c)
    grouped true b c = refl
    grouped false b c = refl

pub any_append : (test : List ℕ → Bool) (xs ys : List (List ℕ)) → list_any test (xs ++ ys) ≡ (list_any test xs || list_any test ys)
any_append test [] ys = refl
any_append test (x ∷ xs) ys = ap (λ b. test x || b) (any_append test xs ys) ∙ grouped (test x) (list_any test xs) (list_any test ys)
  where
    grouped : (a b c : Bool) → (a || (b || c)) ≡ ((a || b) || c)
    grouped true b c = refl
    grouped false b c = refl

true_both : (a b : Bool) → a ≡ true → b ≡ true → (a && b) ≡ true
true_both true b one other = other
true_both false b one other = cc

false_both : (a b : Bool) → a ≡ false → b ≡ false → (a || b) ≡ false
false_both true b one other = cc
false_both false b one other = other

-- ---- the same pattern on both sides

pub same_lists : (xs ys : List (List ℕ)) → pointwise bytes_eq xs ys ≡ true → xs ≡ ys
same_lists [] [] h = refl
same_lists [] (y ∷ ys) h = cc
same_lists (x ∷ xs) [] h = cc
same_lists (x ∷ xs) (y ∷ ys) h =
    let both = both_true (bytes_eq x y) (pointwise bytes_eq xs ys) h in
    ap₂ (λ a b. a ∷ b) ((bytes_eq-Decides x y).0 both.0) (same_lists xs ys both.1)

pub same_cover : (one other list : List (List ℕ)) → one ≡ other → list ≡ one ++ [] → CoverAlike list (one ++ other)
same_cover one other list same is resource =
    let covers : List ℕ → Bool = λ (p : List ℕ). covers_text p resource in
    ap (list_all covers) (is ∙ append-nil one) ∙ doubled (list_all covers one) ∙ sym (all_append covers one one)
    ∙ ap (λ xs. list_all covers (one ++ xs)) same
  where
    doubled : (b : Bool) → b ≡ (b && b)
    doubled true = refl
    doubled false = refl

pub alike : (these those : List (List ℕ)) → these ≡ those → CoverAlike these those
alike these those is resource = ap (list_all (λ (p : List ℕ). covers_text p resource)) is

pub all_joined : (P : List ℕ → Type 0) (xs ys : List (List ℕ)) → All P xs → All P ys → All P (xs ++ ys)
all_joined P [] ys first second k d less = second k d less
all_joined P (x ∷ xs) ys first second zero d less = first zero d (omega arith)
all_joined P (x ∷ xs) ys first second (suc k) d less =
    all_joined P xs ys (λ i e low. first (suc i) e (omega (arith, low))) second k d (omega (arith, less))

-- ---- those that are near

near_all_enough : (include near exclude : List (List ℕ)) (all : List AskedForm) (list : List (Option (List ℕ)))
    → AreNearAll include near exclude → AreShortest (IsBetween include near) all list → AreShortest (IsBetween include exclude) all list
near_all_enough include near exclude all list as_many found =
    all_same (IsBetween include near) (IsBetween include exclude) (λ form r. (
      λ b. record { of_form = b.of_form; covered = b.covered; uncovered = sym (as_many r b.covered) ∙ b.uncovered },
      λ b. record { of_form = b.of_form; covered = b.covered; uncovered = as_many r b.covered ∙ b.uncovered },
    )) all list found

-- nothing is between, if nothing is covered by all
pub none_with_more : (include exclude : List (List ℕ)) (all : List AskedForm) (list : List (Option (List ℕ)))
    → AreShortest (IsBetween include []) all list → list_all is_none list ≡ true → AreShortest (IsBetween include exclude) all list
none_with_more include exclude [] [] are none = are
none_with_more include exclude [] (found ∷ list) are none = are
none_with_more include exclude (form ∷ all) [] are none = are
none_with_more include exclude (form ∷ all) (Some found ∷ list) are none = cc
none_with_more include exclude (form ∷ all) (None ∷ list) are none = (
  λ text b. are.0 text (record { of_form = b.of_form; covered = b.covered; uncovered = refl }),
  none_with_more include exclude all list are.1 none,
)

pub between_near : {T E : Type 0} (list : T → List (Option (List ℕ))) (include exclude those : List (List ℕ)) (result : Result T E)
    → AreNearAll include exclude those → IfOk result (λ v. AreShortest (IsBetween include exclude) forms (list v))
    → IfOk result (λ v. AreShortest (IsBetween include those) forms (list v))
between_near list include exclude those result as_many found =
    then_ok result (λ v. AreShortest (IsBetween include exclude) forms (list v)) (λ v. AreShortest (IsBetween include those) forms (list v)) found
    (λ v shortest. near_all_enough include exclude those forms (list v) as_many shortest)

-- ---- valid ones

pub all_rest : (P : List ℕ → Type 0) (n : ℕ) (xs : List (List ℕ)) → All P xs → All P (drop n xs)
all_rest P zero xs all = all
all_rest P (suc n) [] all = all
all_rest P (suc n) (x ∷ xs) all = all_rest P n xs (λ k d less. all (suc k) d (omega (arith, less)))

pub all_own : (P : List ℕ → Type 0) (ps rest own : List (List ℕ)) (i : ℕ) → All P ps → rest ≡ drop i ps → own ≡ take 1 rest → All P own
all_own P ps rest own i all is first = subst (All P) (sym (first ∙ ap (take 1) is)) (all_before P (drop i ps) 1 (all_rest P i ps all))

pub valid_front : (ps : List (List ℕ)) (i : ℕ) → All IsPattern ps → All IsPattern (take i ps)
valid_front ps i valid = all_before IsPattern ps i valid

-- ---- joined lists

module _ {T E : Type 0} (list : T → List (List ℕ)) where
  pub same_alike : (one other : List (List ℕ)) (result : Result T E) → one ≡ other → IfOk result (λ v. list v ≡ one ++ [])
      → IfOk result (λ v. CoverAlike (list v) (one ++ other))
  same_alike one other result same is =
      then_ok result (λ v. list v ≡ one ++ []) (λ v. CoverAlike (list v) (one ++ other)) is (λ v e. same_cover one other (list v) same e)

  pub joined_alike : (one other : List (List ℕ)) (result : Result T E) → IfOk result (λ v. list v ≡ one ++ other)
      → IfOk result (λ v. CoverAlike (list v) (one ++ other))
  joined_alike one other result is =
      then_ok result (λ v. list v ≡ one ++ other) (λ v. CoverAlike (list v) (one ++ other)) is (λ v e. alike (list v) (one ++ other) e)

  pub joined_valid : (P : List ℕ → Type 0) (one other : List (List ℕ)) (result : Result T E) → All P one → All P other
      → IfOk result (λ v. list v ≡ one ++ other) → IfOk result (λ v. All P (list v))
  joined_valid P one other result first second is =
      then_ok result (λ v. list v ≡ one ++ other) (λ v. All P (list v)) is (λ v e. subst (All P) (sym e) (all_joined P one other first second))

  pub same_valid : (P : List ℕ → Type 0) (one : List (List ℕ)) (result : Result T E) → All P one → IfOk result (λ v. list v ≡ one ++ [])
      → IfOk result (λ v. All P (list v))
  same_valid P one result first is = joined_valid P one [] result first (λ k d less. absurd (omega (arith, less))) is

-- ---- and what they decide

both_between : (one other : Policy) (ps qs own before own' before' include exclude : List (List ℕ)) (i j : ℕ)
    → ArePatternsOf one ps → ArePatternsOf other qs → own ≡ take 1 (drop i ps) → before ≡ take i ps → own' ≡ take 1 (drop j qs)
    → before' ≡ take j qs → CoverAlike include (own ++ own') → exclude ≡ before ++ before' → (form : AskedForm) (r : List ℕ)
    → IsBetween include exclude form r ↔ IsDecidedByBoth one other (slice_get ps i) (slice_get qs j) form r
both_between one other ps qs own before own' before' include exclude i j are be is_own is_before is_own' is_before' alike is form r = (
  λ b. let cover = both_true (list_all covers own) (list_all covers own') (sym (all_append covers own own') ∙ sym (alike r) ∙ b.covered) in
      let none = none_true (list_any covers before) (list_any covers before')
      (sym (any_append covers before before') ∙ sym (ap (list_any covers) is) ∙ b.uncovered) in
      record {
        of_form = b.of_form;
        by_one = (first.0 (record { of_form = b.of_form; covered = cover.0; uncovered = none.0 })).decided;
        by_other = (second.0 (record { of_form = b.of_form; covered = cover.1; uncovered = none.1 })).decided;
      },
  λ d. let x = first.1 (record { of_form = d.of_form; decided = d.by_one }) in
      let y = second.1 (record { of_form = d.of_form; decided = d.by_other }) in
      record {
        of_form = d.of_form;
        covered = alike r ∙ all_append covers own own' ∙ true_both (list_all covers own) (list_all covers own') x.covered y.covered;
        uncovered = ap (list_any covers) is ∙ any_append covers before before'
            ∙ false_both (list_any covers before) (list_any covers before') x.uncovered y.uncovered;
      },
)
  where
    covers : List ℕ → Bool
    covers = λ (q : List ℕ). covers_text q r

    first : IsBetween own before form r ↔ IsDecided one (slice_get ps i) form r
    first = decided_between one ps own before i are is_own is_before form r

    second : IsBetween own' before' form r ↔ IsDecided other (slice_get qs j) form r
    second = decided_between other qs own' before' j be is_own' is_before' form r

pub decided_by_both : {T E : Type 0} (list : T → List (Option (List ℕ))) (one other : Policy)
    (ps qs before rest own before' rest' own' include : List (List ℕ)) (i j : ℕ) (result : Result T E)
    → ArePatternsOf one ps → ArePatternsOf other qs → before ≡ take i ps → rest ≡ drop i ps
    → own ≡ take 1 rest → before' ≡ take j qs → rest' ≡ drop j qs → own' ≡ take 1 rest' → CoverAlike include (own ++ own')
    → IfOk result (λ v. AreShortest (IsBetween include (before ++ before')) forms (list v))
    → IfOk result (λ v. AreShortest (IsDecidedByBoth one other (slice_get ps i) (slice_get qs j)) forms (list v))
decided_by_both list one other ps qs before rest own before' rest' own' include i j result are be front back first front' back' first'
    alike found =
    then_ok result (λ v. AreShortest (IsBetween include (before ++ before')) forms (list v))
    (λ v. AreShortest (IsDecidedByBoth one other (slice_get ps i) (slice_get qs j)) forms (list v)) found
    (λ v. all_same (IsBetween include (before ++ before')) (IsDecidedByBoth one other (slice_get ps i) (slice_get qs j))
    (both_between one other ps qs own before own' before' include (before ++ before') i j are be (first ∙ ap (take 1) back) front
    (first' ∙ ap (take 1) back') front' alike refl) forms (list v))
