-- Numbers among the arguments of the command line.
use Rattle.std.specs.Prelude.{ℕ, List, Option, Some, None, ◌&&◌, ◌==◌, length, not, nat_le, if◌then◌else◌}
use Rattle.std.specs.Char.{is_ascii_digit}
use Rattle.std.specs.List.{list_all}
use Rattle.std.specs.Str.Parse.{digits_value}

-- the number, if it is within these limits
abbrev pub within : ℕ → ℕ → ℕ → Option ℕ
within least most n = if nat_le least n && nat_le n most then Some n else None

-- the number that a text of decimal digits is, with or without leading zeros, within these limits
abbrev pub number_between : ℕ → ℕ → List ℕ → Option ℕ
number_between least most text =
    if not (length text == 0) && list_all is_ascii_digit text then within least most (digits_value 10 text) else None
