-- A text that is shown, one character after another.
use Rattle.std.proofs.Common.{
  ◌≡◌,
  ◌++◌,
  ◌∙◌,
  ◌∷◌,
  ◌||◌,
  ℕ,
  true,
  false,
  List,
  [],
  ap,
  chars,
  encode_utf8,
  encode_utf8_all,
  flat_map,
  if◌then◌else◌,
  length,
  refl,
  sym,
  IsUtf8,
}
use Rattle.std.specs.Char.Escape.{escape_unicode}
use Rattle.std.specs.List.{list_any}
use Rattle.std.proofs.lemmas.Bool.{or_parts}
use Rattle.std.proofs.StrCases.{chars_of_empty}
use Rattle.std.proofs.lemmas.List.Concat.{flat_map-append}
use Rattle.std.proofs.lemmas.Str.{chars-append, chars-encodes, chars_past_char, encodes-append}
use Rattle.opc_cli_failures.specs.Shown.{has_hidden, is_hidden, shown, shown_character, JoinTexts}

pub shown_empty : (text : List ℕ) → length text ≡ 0 → shown text ≡ []
unfolding shown
shown_empty text none = rw (chars_of_empty text none)

pub shown_step : (text rest : List ℕ) (c : ℕ) → IsUtf8 text → text ≡ encode_utf8 c ++ rest
    → shown text ≡ encode_utf8_all (shown_character c) ++ shown rest
unfolding shown
shown_step text rest c utf8 parts = rw (chars_past_char text rest c utf8 parts, encodes-append)

pub join : JoinTexts
unfolding shown
join one other utf8 = rw (chars-append one other utf8, flat_map-append shown_character (chars one) (chars other), encodes-append)

-- whether a character is hidden, of a text, one character after another

pub none_hidden : (text : List ℕ) → length text ≡ 0 → has_hidden text ≡ false
none_hidden text none = rw (chars_of_empty text none)

module _ (text rest : List ℕ) (c : ℕ) (utf8 : IsUtf8 text) (parts : text ≡ encode_utf8 c ++ rest) where
  step : has_hidden text ≡ (is_hidden c || has_hidden rest)
  step = ap (list_any is_hidden) (chars_past_char text rest c utf8 parts)

  pub hidden_here : is_hidden c ≡ true → has_hidden text ≡ true
  hidden_here is = step ∙ ap (λ b. b || has_hidden rest) is

  pub hidden_later : is_hidden c ≡ false → has_hidden rest ≡ has_hidden text
  hidden_later is = sym (step ∙ ap (λ b. b || has_hidden rest) is)

-- a text without such a character is shown as it is

all_shown : (cs : List ℕ) → list_any is_hidden cs ≡ false → flat_map shown_character cs ≡ cs
all_shown [] h = refl
all_shown (c ∷ cs) h =
    let none = or_parts (is_hidden c) (list_any is_hidden cs) h in
    ap (λ b. (if b then escape_unicode c else c ∷ []) ++ flat_map shown_character cs) none.0
    ∙ ap (λ l. c ∷ l) (all_shown cs none.1)

pub shown_as_it_is : (text : List ℕ) → IsUtf8 text → has_hidden text ≡ false → shown text ≡ text
unfolding shown
shown_as_it_is text utf8 h =
    let same : chars text ≡ utf8.0 = ap chars (sym utf8.1.1) ∙ chars-encodes utf8.0 utf8.1.0 in
    ap encode_utf8_all (all_shown (chars text) h ∙ same) ∙ utf8.1.1
