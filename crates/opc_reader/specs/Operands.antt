-- Names and numbers in operands.
use Rattle.std.specs.Prelude.{ℕ, ◌+◌, ◌-◌, ◌*◌, ◌&&◌, Bool, List, [], ◌∷◌, Option, Some, None, if◌then◌else◌}
use Rattle.std.specs.Char.{to_ascii_uppercase, is_ascii_digit}
use Rattle.opc_names.specs.Names.{is_name_character}

-- whether a character may stand in some name, in any case
abbrev pub in_name : ℕ → Bool
in_name c = is_name_character (to_ascii_uppercase c)

-- one or two digits: 48 is `0`
abbrev pub number : List ℕ → Option ℕ
number [] = None
number (a ∷ []) = if is_ascii_digit a then Some (a - 48) else None
number (a ∷ (b ∷ [])) = if is_ascii_digit a && is_ascii_digit b then Some (10 * (a - 48) + (b - 48)) else None
number (a ∷ (b ∷ (c ∷ cs))) = None
