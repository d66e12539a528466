-- How a log shows bytes: as one line of printable ASCII.
use Rattle.std.specs.Prelude.{
  ℕ,
  ◌+◌,
  ◌/◌,
  ◌%◌,
  ◌==◌,
  ◌&&◌,
  ◌||◌,
  Bool,
  List,
  [],
  ◌∷◌,
  ◌++◌,
  flat_map,
  if◌then◌else◌,
  nat_le,
  nat_lt,
}

-- from the space to the tilde
abbrev pub is_printable : ℕ → Bool
is_printable byte = nat_le 32 byte && nat_le byte 126

-- the last hexadecimal digit of a number: 0 to 9 and a to f
abbrev pub hex_digit : ℕ → ℕ
hex_digit n = if nat_lt (n % 16) 10 then 48 + n % 16 else 87 + n % 16

-- `\x1b` for a byte that is not printable
abbrev pub printable : ℕ → List ℕ
printable byte =
    if is_printable byte then byte ∷ [] else 92 ∷ 120 ∷ hex_digit (byte / 16) ∷ hex_digit byte ∷ []

-- a quote and a backslash have a backslash before them
abbrev pub marked : ℕ → List ℕ
marked byte = if (byte == 34) || (byte == 92) then 92 ∷ byte ∷ [] else byte ∷ []

abbrev pub quoted : List ℕ → List ℕ
quoted text = 34 ∷ flat_map marked text ++ 34 ∷ []
