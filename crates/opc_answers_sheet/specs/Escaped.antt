-- Texts in a page: a character with a meaning in HTML is written as a reference.
use Rattle.std.specs.Prelude.{
  ◌==◌,
  ◌||◌,
  ℕ,
  Bool,
  List,
  [],
  ◌∷◌,
  chars,
  codes,
  encode_utf8_all,
  flat_map,
  if◌then◌else◌,
  not,
}

-- those of & < > " '
abbrev pub escaped_character : ℕ → List ℕ
escaped_character c =
    if c == 38 then codes "&amp;" else
    if c == 60 then codes "&lt;" else
    if c == 62 then codes "&gt;" else
    if c == 34 then codes "&quot;" else
    if c == 39 then codes "&#39;" else c ∷ []

-- the characters of a text in a page
abbrev pub escaped_characters : List ℕ → List ℕ
escaped_characters text = flat_map escaped_character (chars text)

-- their bytes
unfoldable pub escaped : List ℕ → List ℕ
escaped text = encode_utf8_all (escaped_characters text)

-- a character that begins no tag, and neither begins nor ends the value of an attribute
abbrev pub is_plain : ℕ → Bool
is_plain c = not ((c == 60) || ((c == 62) || ((c == 34) || (c == 39))))
