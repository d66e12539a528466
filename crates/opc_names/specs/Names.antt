-- Which texts are names, and the first fault of those that are not.
use Rattle.std.specs.Prelude.{
  ◌≡◌,
  ℕ,
  ◌+◌,
  Bool,
  true,
  false,
  not,
  ◌||◌,
  ◌&&◌,
  ◌==◌,
  nat_lt,
  nat_le,
  if◌then◌else◌,
  List,
  [],
  ◌∷◌,
  ◌++◌,
  codes,
  length,
  Option,
  Some,
  None,
}
use Rattle.std.specs.Char.{is_ascii_digit, is_ascii_uppercase}
use Rattle.std.specs.Fmt.{decimal}
use Rattle.std.specs.List.{position, slice_split, list_all}
use Rattle.std.specs.Option.{option_map, option_or}
use Rattle.std.specs.Str.{bytes_eq, chars}
use Rattle.opc_names.specs.declared.rule.Alphabet.{Alphabet}
use Rattle.opc_names.specs.declared.rule.Alphabet.TheVariants.{
  NameCharacters,
  NoDigitFirst,
  Hexadecimal,
  Qualified,
  Generic,
}
use Rattle.opc_names.specs.declared.rule.NameFault.{NameFault}
use Rattle.opc_names.specs.declared.rule.NameFault.TheVariants.{Empty, TooShort, TooLong, BadCharacter, BadQualifier}
use Rattle.opc_names.specs.declared.rule.NameRule.{NameRule}

-- The kinds of name: how many characters, and which.
abbrev pub user_rule : NameRule
user_rule = record { least = 1; most = 8; alphabet = NameCharacters }

abbrev pub unit_rule : NameRule
unit_rule = record { least = 1; most = 8; alphabet = NameCharacters }

abbrev pub group_rule : NameRule
group_rule = record { least = 1; most = 8; alphabet = NoDigitFirst }

abbrev pub console_rule : NameRule
console_rule = record { least = 2; most = 8; alphabet = NoDigitFirst }

abbrev pub volume_rule : NameRule
volume_rule = record { least = 1; most = 6; alphabet = NameCharacters }

abbrev pub device_rule : NameRule
device_rule = record { least = 4; most = 4; alphabet = Hexadecimal }

abbrev pub resource_rule : NameRule
resource_rule = record { least = 1; most = 39; alphabet = Qualified }

abbrev pub pattern_rule : NameRule
pattern_rule = record { least = 1; most = 39; alphabet = Generic }

-- `A` to `Z`, `0` to `9`, `#`, `$`, `@`
abbrev pub is_name_character : ℕ → Bool
is_name_character c = is_ascii_uppercase c || is_ascii_digit c || c == 35 || c == 36 || c == 64

-- whether a character may stand after the first one: 46 is the period, 37 `%`, 42 `*`
abbrev pub may_follow : Alphabet → ℕ → Bool
may_follow NameCharacters c = is_name_character c
may_follow NoDigitFirst c = is_name_character c
may_follow Hexadecimal c = is_ascii_digit c || (nat_le 65 c && nat_le c 70)
may_follow Qualified c = is_name_character c || c == 46
may_follow Generic c = is_name_character c || c == 46 || c == 37 || c == 42

-- whether it may be the first
abbrev pub may_begin : Alphabet → ℕ → Bool
may_begin NameCharacters c = is_name_character c
may_begin NoDigitFirst c = is_name_character c && not (is_ascii_digit c)
may_begin Hexadecimal c = may_follow Hexadecimal c
may_begin Qualified c = may_follow Qualified c
may_begin Generic c = may_follow Generic c

-- where the first character stands that may not stand there
abbrev pub bad_character : Alphabet → List ℕ → Option ℕ
bad_character alphabet [] = None
bad_character alphabet (c ∷ cs) = if may_begin alphabet c then option_map (λ i. i + 1)
    (position (λ d. not (may_follow alphabet d)) cs) else Some 0

-- the parts of a text between its periods
abbrev pub qualifiers : List ℕ → List (List ℕ)
qualifiers text = slice_split (λ c. c == 46) text

-- whether a `*` stands only at the end
abbrev pub star_only_last : List ℕ → Bool
star_only_last [] = true
star_only_last (c ∷ []) = true
star_only_last (c ∷ (d ∷ q)) = not (c == 42) && star_only_last (d ∷ q)

-- whether a part is a qualifier: not empty; of a pattern, `**` or with a `*` only at its end
abbrev pub is_qualifier : Alphabet → List ℕ → Bool
is_qualifier alphabet [] = false
is_qualifier Generic (c ∷ q) = bytes_eq (c ∷ q) (42 ∷ 42 ∷ []) || star_only_last (c ∷ q)
is_qualifier alphabet (c ∷ q) = true

-- where the first part begins that is not a qualifier, if the first of them begins at this place
abbrev pub bad_part : Alphabet → ℕ → List (List ℕ) → Option ℕ
bad_part alphabet at [] = None
bad_part alphabet at (q ∷ parts) = if is_qualifier alphabet q then bad_part alphabet (at + length q + 1) parts else Some
    at

-- where the first bad qualifier of a text begins; a name without periods is one qualifier
abbrev pub bad_qualifier : Alphabet → List ℕ → Option ℕ
bad_qualifier alphabet text = bad_part alphabet 0 (qualifiers text)

-- The first fault of a text as a name. Lengths count characters, places count bytes.
abbrev pub name_fault : NameRule → List ℕ → Option NameFault
name_fault rule text =
    if length (chars text) == 0 then Some Empty else
    (if nat_lt (length (chars text)) rule.least then Some TooShort else
    (if nat_lt rule.most (length (chars text)) then Some TooLong else
    option_or (option_map BadCharacter (bad_character rule.alphabet text))
    (option_map BadQualifier (bad_qualifier rule.alphabet text))))

-- whether a name of this alphabet is one qualifier
abbrev pub is_plain : Alphabet → Bool
is_plain NameCharacters = true
is_plain NoDigitFirst = true
is_plain Hexadecimal = true
is_plain Qualified = false
is_plain Generic = false

-- whether a text is a resource, as a test that computes on a literal
abbrev pub is_resource : List ℕ → Bool
is_resource text = nat_le (length text) 39
    && (list_all (may_follow Qualified) text && list_all (is_qualifier Qualified) (qualifiers text))

-- the words for a fault
abbrev pub fault_words : NameFault → List ℕ
fault_words Empty = codes "empty"
fault_words TooShort = codes "too short"
fault_words TooLong = codes "too long"
fault_words (BadCharacter at) = codes "bad character at " ++ decimal at
fault_words (BadQualifier at) = codes "bad qualifier at " ++ decimal at

-- a text that is a valid resource, or a valid pattern
abbrev pub IsResource : List ℕ → Type 0
IsResource text = name_fault resource_rule text ≡ None

abbrev pub IsPattern : List ℕ → Type 0
IsPattern text = name_fault pattern_rule text ≡ None
