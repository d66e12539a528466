-- The start of a field, one character after another.
use Rattle.std.proofs.Common.{
  ◌≡◌,
  ◌++◌,
  ◌-◌,
  ◌∙◌,
  ◌==◌,
  ◌∷◌,
  ℕ,
  true,
  false,
  List,
  [],
  ap,
  arith,
  chars,
  encode_utf8,
  encode_utf8_all,
  length,
  refl,
  sym,
  append_assoc,
  cond,
  IsUtf8,
}
use Rattle.std.specs.Prelude.{codes}
use Rattle.std.proofs.StrCases.{chars_of_empty}
use Rattle.std.proofs.lemmas.Bool.Decides.{nat_tests}
use Rattle.std.proofs.lemmas.Str.{chars_past_char}
use Rattle.opc_check.specs.Words.{quoted_character, start_within}

pub none_left : (room : ℕ) (text : List ℕ) → length text ≡ 0 → start_within room (chars text) ≡ codes "\""
none_left room text none = rw (chars_of_empty text none)

module _ (room c : ℕ) (text rest : List ℕ) (utf8 : IsUtf8 text) (parts : text ≡ encode_utf8 c ++ rest) where
  pub no_room : room ≡ 0 → start_within room (chars text) ≡ codes "\".."
  no_room none =
      let is_none : (room == 0) ≡ true = grind (arith, nat_tests, none) in
      ap (start_within room) (chars_past_char text rest c utf8 parts)
      ∙ ap (λ b. cond b (codes "\"..") (encode_utf8_all (quoted_character c) ++ start_within (room - 1) (chars rest))) is_none

  pub one_more : (room ≡ 0 → ⊥) → start_within room (chars text) ≡ encode_utf8_all (quoted_character c) ++ start_within (room - 1) (chars rest)
  one_more some =
      let is_some : (room == 0) ≡ false = grind (arith, nat_tests, some) in
      ap (start_within room) (chars_past_char text rest c utf8 parts)
      ∙ ap (λ b. cond b (codes "\"..") (encode_utf8_all (quoted_character c) ++ start_within (room - 1) (chars rest))) is_some
