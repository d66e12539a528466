-- Unsigned numbers, as `parse` reads them.
use Rattle.std.proofs.Common.{
  ◌≡◌,
  ◌<◌,
  ◌≤◌,
  ◌==◌,
  ◌&&◌,
  ◌^◌,
  ℕ,
  zero,
  suc,
  Bool,
  not,
  if◌then◌else◌,
  None,
  inl,
  inr,
  lit<,
  true,
  false,
  List,
  [],
  ◌∷◌,
  Some,
  Result,
  Ok,
  Err,
  length,
  nat_le,
  refl,
  sym,
  ap,
  subst,
  ◌∙◌,
  rules,
  arith,
}
use Rattle.std.specs.Prelude.{IsUtf8}
use Rattle.std.specs.Str.{IsAscii}
use Rattle.std.proofs.lemmas.Bool.{cases_Bool}
use Rattle.std.proofs.lemmas.Str.{IsUtf8-from_ascii}
use Rattle.std.proofs.lemmas.Bool.Decides.{nat_tests}
use Rattle.std.proofs.lemmas.Str.Parse.{digits_value_short, numerals_by_value, tells_digits}
use Rattle.std.specs.Char.{is_ascii_digit, digit_value}
use Rattle.std.specs.List.{list_all}
use Rattle.std.specs.Result.{result_ok}
use Rattle.std.specs.Str.Parse.{AllDigits, IsNumeral, ParsesUnsigned, digits_value, without_leading_plus}
use Rattle.opc_http_requests.specs.Framing.{number_in}

digit_is : (c : ℕ) → is_ascii_digit c ≡ true → digit_value c < 10
digit_is c h = grind (arith, nat_tests, h)

no_plus : (c : ℕ) → is_ascii_digit c ≡ true → (c == 43) ≡ false
no_plus c h = grind (arith, nat_tests, h)

digits_are : (text : List ℕ) → list_all is_ascii_digit text ≡ true → AllDigits 10 text
digits_are [] h = tt
digits_are (c ∷ text) h = go (is_ascii_digit c) refl h (digits_are text)
  where
    go : (b : Bool) → is_ascii_digit c ≡ b → (b && list_all is_ascii_digit text) ≡ true
        → (list_all is_ascii_digit text ≡ true → AllDigits 10 text) → AllDigits 10 (c ∷ text)
    go true e k next = (digit_is c e, next k)
    go false e k next = absurd (search (rules, k))

numeral_is : (text : List ℕ) → 0 < length text → list_all is_ascii_digit text ≡ true → IsNumeral 10 text × (without_leading_plus text ≡ text)
numeral_is [] some h = absurd (omega (arith, some))
numeral_is (c ∷ text) some h = go (is_ascii_digit c) refl h
  where
    go : (b : Bool) → is_ascii_digit c ≡ b → (b && list_all is_ascii_digit text) ≡ true → IsNumeral 10 (c ∷ text) × (without_leading_plus (c ∷ text) ≡ c ∷ text)
    go true e k = ((omega arith, (digit_is c e, digits_are text k)), rw (no_plus c e) refl)
    go false e k = absurd (search (rules, k))

-- at most 18 digits fit, and `parse` reads their value
pub parsed_as : {E : Type 0} (text : List ℕ) (r : Result ℕ E) → 0 < length text → list_all is_ascii_digit text ≡ true → length text ≤ 18
    → ParsesUnsigned 64 10 text r → result_ok r ≡ Some (digits_value 10 text)
parsed_as text (Ok x) some is short parses = ap Some (parses.1 ∙ ap (digits_value 10) (numeral_is text some is).1)
parsed_as text (Err e) some is short refused =
    let n = numeral_is text some is in
    let low : digits_value 10 text < 10 ^ 18 = digits_value_short (numerals_by_value (AllDigits 10) tells_digits) text 18 n.0.1 short in
    let fits : digits_value 10 text < 2 ^ 64 = omega (arith, low) in
    absurd (refused (subst (λ t. IsNumeral 10 t × (digits_value 10 t < 2 ^ 64)) (sym n.1) (n.0, fits)))

-- digits are ASCII
digit_ascii : (c : ℕ) → is_ascii_digit c ≡ true → c < 128
digit_ascii c h = grind (arith, nat_tests, h)

digits-ascii : (text : List ℕ) → list_all is_ascii_digit text ≡ true → IsAscii text
digits-ascii [] h i = lit< tt
digits-ascii (c ∷ text) h zero = digit_ascii c (and-first h)
  where
    and-first : list_all is_ascii_digit (c ∷ text) ≡ true → is_ascii_digit c ≡ true
    and-first k = search (rules, k)
digits-ascii (c ∷ text) h (suc i) = digits-ascii text (and-second h) i
  where
    and-second : list_all is_ascii_digit (c ∷ text) ≡ true → list_all is_ascii_digit text ≡ true
    and-second k = search (rules, k)

-- the number of digits that are few enough
pub number-of : (most : ℕ) (text : List ℕ) → 0 < length text → list_all is_ascii_digit text ≡ true → nat_le (length text) most ≡ true
    → number_in most text ≡ Some (digits_value 10 text)
number-of most text some digits short =
    let full : (length text == 0) ≡ false = grind (arith, nat_tests) in
    rw (full, digits, short) refl

-- bytes that are not a text are not a number
pub no-number : (most : ℕ) (text : List ℕ) → ¬ (IsUtf8 text) → number_in most text ≡ None
no-number most text bad = elim (cases_Bool (list_all is_ascii_digit text)) [
  | inl digits ↦ absurd (bad (IsUtf8-from_ascii text (digits-ascii text digits)))
  | inr other ↦ rw other (none (not (length text == 0)) (nat_le (length text) most))
]
  where
    none : (u v : Bool) → (if (u && false) && v then Some (digits_value 10 text) else None) ≡ None
    none true v = refl
    none false v = refl
