-- A text that is escaped, one character after another.
use Rattle.std.proofs.Common.{
  ◌≡◌,
  ◌++◌,
  ◌∙◌,
  ◌∷◌,
  ◌||◌,
  ℕ,
  true,
  false,
  List,
  [],
  ap,
  chars,
  encode_utf8,
  encode_utf8_all,
  flat_map,
  if◌then◌else◌,
  length,
  refl,
  sym,
  IsUtf8,
}
use Rattle.std.specs.Char.Escape.{escape_unicode}
use Rattle.std.specs.List.{list_any}
use Rattle.std.proofs.lemmas.Bool.{or_parts}
use Rattle.std.proofs.StrCases.{chars_of_empty}
use Rattle.std.proofs.lemmas.Str.{chars-encodes, chars_past_char, encodes-append}
use Rattle.opc_check.specs.Escape.{is_unprintable}
use Rattle.opc_cli_failures.specs.Escaped.{escaped, escaped_character, has_unprintable, PrintableTextsStay}

pub escaped_empty : (text : List ℕ) → length text ≡ 0 → escaped text ≡ []
unfolding escaped
escaped_empty text none = rw (chars_of_empty text none)

pub escaped_step : (text rest : List ℕ) (c : ℕ) → IsUtf8 text → text ≡ encode_utf8 c ++ rest
    → escaped text ≡ encode_utf8_all (escaped_character c) ++ escaped rest
unfolding escaped
escaped_step text rest c utf8 parts = rw (chars_past_char text rest c utf8 parts, encodes-append)

-- whether a character is unprintable, of a text, one character after another

pub none_unprintable : (text : List ℕ) → length text ≡ 0 → has_unprintable text ≡ false
none_unprintable text none = rw (chars_of_empty text none)

module _ (text rest : List ℕ) (c : ℕ) (utf8 : IsUtf8 text) (parts : text ≡ encode_utf8 c ++ rest) where
  step : has_unprintable text ≡ (is_unprintable c || has_unprintable rest)
  step = ap (list_any is_unprintable) (chars_past_char text rest c utf8 parts)

  pub unprintable_here : is_unprintable c ≡ true → has_unprintable text ≡ true
  unprintable_here is = step ∙ ap (λ b. b || has_unprintable rest) is

  pub unprintable_later : is_unprintable c ≡ false → has_unprintable rest ≡ has_unprintable text
  unprintable_later is = sym (step ∙ ap (λ b. b || has_unprintable rest) is)

-- a text without such a character stays

all_escaped : (cs : List ℕ) → list_any is_unprintable cs ≡ false → flat_map escaped_character cs ≡ cs
all_escaped [] h = refl
all_escaped (c ∷ cs) h =
    let none = or_parts (is_unprintable c) (list_any is_unprintable cs) h in
    ap (λ b. (if b then escape_unicode c else c ∷ []) ++ flat_map escaped_character cs) none.0
    ∙ ap (λ l. c ∷ l) (all_escaped cs none.1)

pub printable_stay : PrintableTextsStay
unfolding escaped
printable_stay text utf8 h =
    let same : chars text ≡ utf8.0 = ap chars (sym utf8.1.1) ∙ chars-encodes utf8.0 utf8.1.0 in
    ap encode_utf8_all (all_escaped (chars text) h ∙ same) ∙ utf8.1.1
