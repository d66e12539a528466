-- Some resource of a form passes a test exactly if one that is tried does.
use Rattle.std.proofs.Common.{
  ◌≡◌,
  ℕ,
  zero,
  suc,
  ◌≤◌,
  ◌<◌,
  ◌⊎◌,
  inl,
  inr,
  Bool,
  true,
  false,
  ◌&&◌,
  ◌||◌,
  List,
  [],
  ◌∷◌,
  Option,
  Some,
  None,
  length,
  refl,
  ap,
  sym,
  ◌∙◌,
  arith,
}
use Rattle.std.specs.Prelude.{is_none}
use Rattle.std.specs.Str.{IsAscii}
use Rattle.std.proofs.lemmas.Bool.{cases_lt}
use Rattle.opc_names.specs.declared.rule.NameRule.{NameRule}
use Rattle.opc_names.specs.Names.{name_fault, unit_rule, console_rule}
use Rattle.opc_names.proofs.Faults.{name_ascii, name_short}
use Rattle.opc_policy_witness.proofs.Names.{IsUsual, and_true, both, console_usual, unit_usual}
use Rattle.opc_check_reach.specs.Forms.{
  AnyConsole,
  AnyUnit,
  AreOf,
  IsOf,
  Qualifier,
  Word,
  any_below,
  any_name,
  any_qualifier,
  any_resource,
  any_text,
}

pub or_cases : (a b : Bool) → (a || b) ≡ true → (a ≡ true) ⊎ (b ≡ true)
or_cases true b h = inl refl
or_cases false b h = inr h

pub or_left : (a b : Bool) → a ≡ true → (a || b) ≡ true
or_left a b h = ap (λ t. t || b) h

pub or_right : (a b : Bool) → b ≡ true → (a || b) ≡ true
or_right true b h = refl
or_right false b h = h

-- ---- numbers and texts

below_some : (n : ℕ) (test : ℕ → Bool) (c : ℕ) → c < n → test c ≡ true → any_below n test ≡ true
unfolding any_below
below_some zero test c h e = absurd (omega (arith, h))
below_some (suc n) test c h e =
    elim (cases_lt c n) [
      | inl k ↦ or_right (test n) (any_below n test) (below_some n test c k e)
      | inr k ↦ (let same : c ≡ n = omega (arith, h, k) in or_left (test n) (any_below n test) (sym (ap test same) ∙ e))
    ]

below_gives : (n : ℕ) (test : ℕ → Bool) → any_below n test ≡ true → (c : ℕ) × (test c ≡ true)
unfolding any_below
below_gives zero test h = cc
below_gives (suc n) test h =
    elim (or_cases (test n) (any_below n test) h) [
      | inl e ↦ (n, e)
      | inr e ↦ below_gives n test e
    ]

text_some : (n : ℕ) (test : List ℕ → Bool) (s : List ℕ) → length s ≤ n → IsAscii s → test s ≡ true → any_text n test ≡ true
unfolding any_text
text_some zero test [] h small e = e
text_some zero test (c ∷ s) h small e = absurd (omega (arith, h))
text_some (suc n) test [] h small e = or_left _ _ e
text_some (suc n) test (c ∷ s) h small e =
    or_right (test []) _ (below_some 128 (λ d. any_text n (λ t. test (d ∷ t))) c (small 0)
    (text_some n (λ t. test (c ∷ t)) s (omega (arith, h)) (λ i. small (suc i)) e))

text_gives : (n : ℕ) (test : List ℕ → Bool) → any_text n test ≡ true → (s : List ℕ) × (test s ≡ true)
unfolding any_text
text_gives zero test h = ([], h)
text_gives (suc n) test h =
    elim (or_cases (test []) (any_below 128 (λ c. any_text n (λ s. test (c ∷ s)))) h) [
      | inl e ↦ ([], e)
      | inr e ↦ (let first = below_gives 128 (λ c. any_text n (λ s. test (c ∷ s))) e in
          let rest = text_gives n (λ s. test (first.0 ∷ s)) first.1 in
          (first.0 ∷ rest.0, rest.1))
    ]

-- ---- names

none_is : {A : Type 0} (o : Option A) → is_none o ≡ true → o ≡ None
none_is None h = refl
none_is (Some x) h = cc

name_some : (rule : NameRule) (test : List ℕ → Bool) (s : List ℕ) → IsUsual rule → name_fault rule s ≡ None → test s ≡ true
    → any_name rule test ≡ true
name_some rule test s usual is e =
    text_some 8 (λ t. is_none (name_fault rule t) && test t) s (omega (arith, name_short rule s is, usual.most)) (name_ascii rule s is)
    (and_true _ _ (ap is_none is) e)

name_gives : (rule : NameRule) (test : List ℕ → Bool) → any_name rule test ≡ true
    → (s : List ℕ) × (name_fault rule s ≡ None) × (test s ≡ true)
name_gives rule test h =
    let found = text_gives 8 (λ t. is_none (name_fault rule t) && test t) h in
    let says = both (is_none (name_fault rule found.0)) (test found.0) found.1 in
    (found.0, none_is (name_fault rule found.0) says.0, says.1)

qualifier_some : (f : Qualifier) (test : List ℕ → Bool) (s : List ℕ) → IsOf f s → test s ≡ true → any_qualifier f test ≡ true
qualifier_some (Word text) test s is e = sym (ap test is) ∙ e
qualifier_some AnyUnit test s is e = name_some unit_rule test s unit_usual is e
qualifier_some AnyConsole test s is e = name_some console_rule test s console_usual is e

qualifier_gives : (f : Qualifier) (test : List ℕ → Bool) → any_qualifier f test ≡ true → (s : List ℕ) × IsOf f s × (test s ≡ true)
qualifier_gives (Word text) test h = (text, refl, h)
qualifier_gives AnyUnit test h = name_gives unit_rule test h
qualifier_gives AnyConsole test h = name_gives console_rule test h

-- ---- resources

pub resource_some : (fs : List Qualifier) (test : List (List ℕ) → Bool) (r : List (List ℕ)) → AreOf fs r → test r ≡ true
    → any_resource fs test ≡ true
resource_some [] test [] are e = e
resource_some [] test (s ∷ r) are e = absurd are
resource_some (f ∷ fs) test [] are e = absurd are
resource_some (f ∷ fs) test (s ∷ r) are e =
    qualifier_some f (λ t. any_resource fs (λ x. test (t ∷ x))) s are.0 (resource_some fs (λ x. test (s ∷ x)) r are.1 e)

pub resource_gives : (fs : List Qualifier) (test : List (List ℕ) → Bool) → any_resource fs test ≡ true
    → (r : List (List ℕ)) × AreOf fs r × (test r ≡ true)
resource_gives [] test h = ([], tt, h)
resource_gives (f ∷ fs) test h =
    let first = qualifier_gives f (λ t. any_resource fs (λ x. test (t ∷ x))) h in
    let rest = resource_gives fs (λ x. test (first.0 ∷ x)) first.2 in
    (first.0 ∷ rest.0, (first.1, rest.1), rest.2)
