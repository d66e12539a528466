-- Unsigned numbers, as `parse` reads them.
use Rattle.std.proofs.Common.{
  ◌≡◌,
  ◌<◌,
  ◌≤◌,
  ◌==◌,
  ◌&&◌,
  ◌^◌,
  ℕ,
  Bool,
  true,
  false,
  List,
  [],
  ◌∷◌,
  Some,
  Result,
  Ok,
  Err,
  length,
  nat_le,
  refl,
  sym,
  ap,
  subst,
  ◌∙◌,
  rules,
  arith,
}
use Rattle.std.proofs.lemmas.Bool.Decides.{nat_tests}
use Rattle.std.proofs.lemmas.Str.Parse.{digits_value_short, numerals_by_value, tells_digits}
use Rattle.std.specs.Char.{is_ascii_digit, digit_value}
use Rattle.std.specs.List.{list_all}
use Rattle.std.specs.Result.{result_ok}
use Rattle.std.specs.Str.Parse.{AllDigits, IsNumeral, ParsesUnsigned, digits_value, without_leading_plus}
use Rattle.opc_cli_script.specs.Scripts.{is_number, moment_digits, moment_in}

digit_is : (c : ℕ) → is_ascii_digit c ≡ true → digit_value c < 10
digit_is c h = grind (arith, nat_tests, h)

no_plus : (c : ℕ) → is_ascii_digit c ≡ true → (c == 43) ≡ false
no_plus c h = grind (arith, nat_tests, h)

digits_are : (text : List ℕ) → list_all is_ascii_digit text ≡ true → AllDigits 10 text
digits_are [] h = tt
digits_are (c ∷ text) h = go (is_ascii_digit c) refl h (digits_are text)
  where
    go : (b : Bool) → is_ascii_digit c ≡ b → (b && list_all is_ascii_digit text) ≡ true
        → (list_all is_ascii_digit text ≡ true → AllDigits 10 text) → AllDigits 10 (c ∷ text)
    go true e k next = (digit_is c e, next k)
    go false e k next = absurd (search (rules, k))

pub numeral_is : (text : List ℕ) → is_number text ≡ true → IsNumeral 10 text × (without_leading_plus text ≡ text)
numeral_is [] h = absurd (search (rules, h))
numeral_is (c ∷ text) h = go (is_ascii_digit c) refl (all_of h)
  where
    all_of : is_number (c ∷ text) ≡ true → list_all is_ascii_digit (c ∷ text) ≡ true
    all_of k = search (rules, k)

    go : (b : Bool) → is_ascii_digit c ≡ b → (b && list_all is_ascii_digit text) ≡ true → IsNumeral 10 (c ∷ text) × (without_leading_plus (c ∷ text) ≡ c ∷ text)
    go true e k = ((omega arith, (digit_is c e, digits_are text k)), rw (no_plus c e) refl)
    go false e k = absurd (search (rules, k))

-- with this few digits they fit, and `parse` reads their value
pub parsed_as : {E : Type 0} (text : List ℕ) (r : Result ℕ E) → is_number text ≡ true
    → nat_le (length text) moment_digits ≡ true → ParsesUnsigned 64 10 text r → result_ok r ≡ moment_in text
parsed_as text (Ok x) is short parses = rw (is, short) (ap Some (parses.1 ∙ ap (digits_value 10) (numeral_is text is).1))
parsed_as text (Err e) is short refused =
    let n = numeral_is text is in
    let few : length text ≤ 13 = grind (arith, nat_tests, short) in
    let low : digits_value 10 text < 10 ^ 13 = digits_value_short (numerals_by_value (AllDigits 10) tells_digits) text 13 n.0.1 few in
    let fits : digits_value 10 text < 2 ^ 64 = omega (arith, low) in
    absurd (refused (subst (λ t. IsNumeral 10 t × (digits_value 10 t < 2 ^ 64)) (sym n.1) (n.0, fits)))
