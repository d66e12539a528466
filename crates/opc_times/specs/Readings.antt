-- The timestamp that a text names in the form of RFC 3339.
use Rattle.std.specs.Prelude.{ℕ, zero, suc, ℤ, pos, negsuc, List, Option, Some, None, Result, Ok, Err, int_div, int_rem}
use Rattle.jiff.specs.Words.{parse_timestamp}

-- a timestamp is a whole second, none before 1970
abbrev pub whole : (seconds rest : ℤ) → Option ℕ
whole (pos moment) (pos zero) = Some moment
whole (pos moment) (pos (suc rest)) = None
whole (pos moment) (negsuc rest) = None
whole (negsuc before) rest = None

-- of the nanoseconds since 1970
abbrev pub moment_of : {E : Type 0} → Result ℤ E → Option ℕ
moment_of (Ok nanos) = whole (int_div nanos (pos 1_000_000_000)) (int_rem nanos (pos 1_000_000_000))
moment_of (Err error) = None

-- what `jiff` reads as an instant: a date, a time and its offset, of which Z is none
abbrev pub moment_in : List ℕ → Option ℕ
moment_in text = moment_of (parse_timestamp text)
