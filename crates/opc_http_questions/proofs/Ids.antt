-- Bytes that are not a text are no id.
use Rattle.std.proofs.Common.{◌≡◌, ◌<◌, ◌&&◌, ℕ, zero, suc, true, List, [], ◌∷◌, length, nat_le, refl, None, inl, inr, lit<, rules, arith}
use Rattle.std.specs.Prelude.{IsUtf8}
use Rattle.std.specs.List.{list_all}
use Rattle.std.specs.Str.{IsAscii}
use Rattle.std.proofs.lemmas.Bool.{cases_Bool}
use Rattle.std.proofs.lemmas.Bool.Decides.{nat_tests}
use Rattle.std.proofs.lemmas.Str.{IsUtf8-from_ascii}
use Rattle.opc_http_questions.specs.RequestIds.{id_by, is_visible}

visible-byte : (c : ℕ) → is_visible c ≡ true → c < 128
visible-byte c h = grind (arith, nat_tests, h)

-- visible characters are ASCII
visible-ascii : (text : List ℕ) → list_all is_visible text ≡ true → IsAscii text
visible-ascii [] h i = lit< tt
visible-ascii (c ∷ text) h zero = visible-byte c (first h)
  where
    first : list_all is_visible (c ∷ text) ≡ true → is_visible c ≡ true
    first k = search (rules, k)
visible-ascii (c ∷ text) h (suc i) = visible-ascii text (second h) i
  where
    second : list_all is_visible (c ∷ text) ≡ true → list_all is_visible text ≡ true
    second k = search (rules, k)

pub no-id : (value : List ℕ) → ¬ (IsUtf8 value) → id_by value ≡ None
no-id value bad = elim (cases_Bool (list_all is_visible value)) [
  | inl is ↦ absurd (bad (IsUtf8-from_ascii value (visible-ascii value is)))
  | inr other ↦ elim (cases_Bool (nat_le 1 (length value) && nat_le (length value) 128)) [
    | inl fits ↦ rw (fits, other) refl
    | inr long ↦ rw long refl
  ]
]
