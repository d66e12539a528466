-- Two digits.
use Rattle.std.proofs.Common.{
  ◌≡◌,
  ◌<◌,
  ◌≤◌,
  ◌+◌,
  ◌-◌,
  ◌*◌,
  ◌/◌,
  ◌%◌,
  ◌==◌,
  ◌&&◌,
  ℕ,
  zero,
  suc,
  Bool,
  true,
  false,
  not,
  List,
  [],
  ◌∷◌,
  Option,
  Some,
  None,
  if◌then◌else◌,
  refl,
  sym,
  ap,
  subst,
  ◌∙◌,
  rules,
  arith,
}
use Rattle.std.proofs.lemmas.Bool.Decides.{nat_tests}
use Rattle.opc_cli_script.proofs.Words.{IsWord, bytes_same}
use Rattle.std.specs.Fmt.{digits}
use Rattle.std.specs.List.{list_all}
use Rattle.std.specs.Char.{is_ascii_digit}
use Rattle.std.specs.Str.{bytes_eq}
use Rattle.opc_board.specs.Texts.{two_digits}
use Rattle.opc_cli_script.specs.Reading.{id_in, is_space}

-- a test holds of all numbers below this one
abbrev below : ℕ → (ℕ → Bool) → Bool
below zero p = true
below (suc n) p = p n && below n p

or_below : (n : ℕ) (p : ℕ → Bool) (k : ℕ) (b : Bool) → (k == n) ≡ b → (p n && below n p) ≡ true → k < suc n
    → (below n p ≡ true → k < n → p k ≡ true) → p k ≡ true
or_below n p k true e h low next =
    let same : k ≡ n = grind (arith, nat_tests, e) in
    subst (λ j. p j ≡ true) (sym same) (search (rules, h))
or_below n p k false e h low next = next (search (rules, h)) (grind (arith, nat_tests, e, low))

holds_below : (n : ℕ) (p : ℕ → Bool) → below n p ≡ true → (k : ℕ) → k < n → p k ≡ true
holds_below zero p h k low = absurd (omega (arith, low))
holds_below (suc n) p h k low = or_below n p k (k == n) refl h low (λ b l. holds_below n p b k l)

abbrev is_some_number : Option ℕ → ℕ → Bool
is_some_number (Some x) k = x == k
is_some_number None k = false

some_number : (o : Option ℕ) (k : ℕ) → is_some_number o k ≡ true → o ≡ Some k
some_number (Some x) k h = ap Some (grind (arith, nat_tests, h))
some_number None k h = absurd (search (rules, h))

pub id_back : (id : ℕ) → id < 100 → id_in (two_digits id) ≡ Some id
unfolding digits
id_back id h = some_number (id_in (two_digits id)) id (holds_below 100 (λ k. is_some_number (id_in (two_digits k)) k) refl id h)

pub digits_are_word : (id : ℕ) → id < 100 → IsWord (two_digits id)
unfolding digits
digits_are_word id h = holds_below 100 (λ k. list_all (λ c. not (is_space c)) (two_digits k)) refl id h

two_digits_are : (k : ℕ) → k < 100 → bytes_eq (two_digits k) ((48 + k / 10) ∷ (48 + k % 10) ∷ []) ≡ true
unfolding digits
two_digits_are k h = holds_below 100 (λ k. bytes_eq (two_digits k) ((48 + k / 10) ∷ (48 + k % 10) ∷ [])) refl k h

pub id_is : (text : List ℕ) (id : ℕ) → id_in text ≡ Some id → (id < 100) × (text ≡ two_digits id)
id_is [] id h = absurd (search (rules, h))
id_is (a ∷ []) id h = absurd (search (rules, h))
id_is (a ∷ (b ∷ (c ∷ rest))) id h = absurd (search (rules, h))
id_is (a ∷ (b ∷ [])) id h = go (is_ascii_digit a) (is_ascii_digit b) refl refl h
  where
    go : (x y : Bool) → is_ascii_digit a ≡ x → is_ascii_digit b ≡ y
        → (if x && y then Some (10 * (a - 48) + (b - 48)) else None) ≡ Some id → (id < 100)
        × (a ∷ (b ∷ []) ≡ two_digits id)
    go false y d e k = absurd (search (rules, k))
    go true false d e k = absurd (search (rules, k))
    go true true d e k =
        let value : 10 * (a - 48) + (b - 48) ≡ id = search (rules, k) in
        let first : (48 ≤ a) × (a ≤ 57) = (grind (arith, nat_tests, d), grind (arith, nat_tests, d)) in
        let second : (48 ≤ b) × (b ≤ 57) = (grind (arith, nat_tests, e), grind (arith, nat_tests, e)) in
        let low : id < 100 = omega (arith, value, first.1, second.1) in
        let are : two_digits id ≡ (48 + id / 10) ∷ (48 + id % 10) ∷ [] = bytes_same _ _ (two_digits_are id low) in
        let tens : 48 + id / 10 ≡ a = omega (arith, value, first.0, first.1, second.0, second.1) in
        let ones : 48 + id % 10 ≡ b = omega (arith, value, first.0, first.1, second.0, second.1) in
        (low, sym (are ∙ ap (λ x. x ∷ (48 + id % 10) ∷ []) tens ∙ ap (λ y. a ∷ y ∷ []) ones))
