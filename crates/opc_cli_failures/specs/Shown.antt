-- Texts as a terminal shows them.
use Rattle.std.specs.Prelude.{
  ◌≡◌,
  ◌∷◌,
  ◌++◌,
  ◌&&◌,
  ◌==◌,
  ℕ,
  Bool,
  IsUtf8,
  List,
  [],
  chars,
  encode_utf8_all,
  flat_map,
  if◌then◌else◌,
  not,
}
use Rattle.std.specs.List.{list_any}
use Rattle.std.specs.Char.Escape.{escape_unicode}
use Rattle.opc_check.specs.Escape.{is_unprintable}

-- A terminal would act on it, or not show it. A line feed (10) ends a line.
abbrev pub is_hidden : ℕ → Bool
is_hidden code = not (code == 10) && is_unprintable code

-- a character of a text is
abbrev pub has_hidden : List ℕ → Bool
has_hidden text = list_any is_hidden (chars text)

-- as `\u{1b}`, or as it is
abbrev pub shown_character : ℕ → List ℕ
shown_character code = if is_hidden code then escape_unicode code else code ∷ []

-- the bytes of the text that is shown, of those of a text
unfoldable pub shown : List ℕ → List ℕ
shown text = encode_utf8_all (flat_map shown_character (chars text))

-- Of texts, one after another, each is shown by itself.
abbrev pub JoinTexts : Type 0
JoinTexts = (one other : List ℕ) → IsUtf8 one → shown (one ++ other) ≡ shown one ++ shown other
