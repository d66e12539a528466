-- Texts in a line of an output, whatever the output is.
use Rattle.std.specs.Prelude.{
  ◌≡◌,
  ◌∷◌,
  ◌&&◌,
  ℕ,
  Bool,
  IsUtf8,
  List,
  [],
  chars,
  encode_utf8_all,
  false,
  flat_map,
  if◌then◌else◌,
  nat_le,
}
use Rattle.std.specs.List.{list_any}
use Rattle.std.specs.Char.Escape.{escape_unicode}
use Rattle.opc_check.specs.Escape.{is_unprintable}

-- printable ASCII
abbrev pub is_plain : ℕ → Bool
is_plain c = nat_le 32 c && nat_le c 126

-- a character of a text is
abbrev pub has_unprintable : List ℕ → Bool
has_unprintable text = list_any is_unprintable (chars text)

-- as `\u{a}`, or as it is
abbrev pub escaped_character : ℕ → List ℕ
escaped_character code = if is_unprintable code then escape_unicode code else code ∷ []

-- the bytes of a text with each such character escaped
unfoldable pub escaped : List ℕ → List ℕ
escaped text = encode_utf8_all (flat_map escaped_character (chars text))

-- A text without such a character is printed as it is.
abbrev pub PrintableTextsStay : Type 0
PrintableTextsStay = (text : List ℕ) → IsUtf8 text → has_unprintable text ≡ false → escaped text ≡ text
