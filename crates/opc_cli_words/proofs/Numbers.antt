-- Numbers of digits, as `parse` refuses them.
use Rattle.std.proofs.Common.{
  ◌≡◌,
  ◌<◌,
  ◌==◌,
  ◌&&◌,
  ◌^◌,
  ℕ,
  Bool,
  if◌then◌else◌,
  Some,
  None,
  inl,
  inr,
  true,
  false,
  List,
  [],
  ◌∷◌,
  length,
  nat_le,
  refl,
  sym,
  subst,
  rules,
  arith,
}
use Rattle.std.proofs.lemmas.Bool.{cases_Bool}
use Rattle.std.proofs.lemmas.Bool.Decides.{nat_tests}
use Rattle.std.specs.Char.{is_ascii_digit, digit_value}
use Rattle.std.specs.List.{list_all}
use Rattle.std.specs.Str.Parse.{AllDigits, IsNumeral, digits_value, without_leading_plus}
use Rattle.opc_cli_words.specs.Numbers.{number_between}

digit_is : (c : ℕ) → is_ascii_digit c ≡ true → digit_value c < 10
digit_is c h = grind (arith, nat_tests, h)

no_plus : (c : ℕ) → is_ascii_digit c ≡ true → (c == 43) ≡ false
no_plus c h = grind (arith, nat_tests, h)

digits_are : (text : List ℕ) → list_all is_ascii_digit text ≡ true → AllDigits 10 text
digits_are [] h = tt
digits_are (c ∷ text) h = go (is_ascii_digit c) refl h (digits_are text)
  where
    go : (b : Bool) → is_ascii_digit c ≡ b → (b && list_all is_ascii_digit text) ≡ true
        → (list_all is_ascii_digit text ≡ true → AllDigits 10 text) → AllDigits 10 (c ∷ text)
    go true e k next = (digit_is c e, next k)
    go false e k next = absurd (search (rules, k))

numeral_is : (text : List ℕ) → 0 < length text → list_all is_ascii_digit text ≡ true → IsNumeral 10 text × (without_leading_plus text ≡ text)
numeral_is [] some h = absurd (omega (arith, some))
numeral_is (c ∷ text) some h = go (is_ascii_digit c) refl h
  where
    go : (b : Bool) → is_ascii_digit c ≡ b → (b && list_all is_ascii_digit text) ≡ true → IsNumeral 10 (c ∷ text) × (without_leading_plus (c ∷ text) ≡ c ∷ text)
    go true e k = ((omega arith, (digit_is c e, digits_are text k)), rw (no_plus c e) refl)
    go false e k = absurd (search (rules, k))

none : (u : Bool) (n : ℕ) → (if u && false then Some n else None) ≡ None
none true n = refl
none false n = refl

-- digits that `parse` refuses are a number past each limit
pub refused_is_past : (least most : ℕ) (text : List ℕ) → most < 2 ^ 64 → 0 < length text → list_all is_ascii_digit text ≡ true
    → ¬ (IsNumeral 10 (without_leading_plus text) × (digits_value 10 (without_leading_plus text) < 2 ^ 64)) → number_between least most text ≡ None
refused_is_past least most text fits some digits refused =
    let n = numeral_is text some digits in
    let past : nat_le (digits_value 10 text) most ≡ false = elim (cases_Bool (nat_le (digits_value 10 text) most)) [
      | inl low ↦
          let small : digits_value 10 text < 2 ^ 64 = grind (arith, nat_tests, low, fits) in
          absurd (refused (subst (λ t. IsNumeral 10 t × (digits_value 10 t < 2 ^ 64)) (sym n.1) (n.0, small)))
      | inr high ↦ high
    ] in
    let full : (length text == 0) ≡ false = grind (arith, nat_tests) in
    rw (full, digits, past) (none (nat_le least (digits_value 10 text)) (digits_value 10 text))
