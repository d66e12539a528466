-- How long ago, among the arguments of the command line.
use Rattle.std.specs.Prelude.{
  ◌-◌,
  ◌*◌,
  ℕ,
  List,
  Option,
  None,
  codes,
  drop,
  if◌then◌else◌,
  length,
  nat_eq,
  option_map,
  take,
}
use Rattle.std.specs.List.{ends_with, starts_with}
use Rattle.std.specs.Option.{option_or}
use Rattle.opc_cli_words.specs.Numbers.{number_between}

-- a number of units of this many seconds, with the letter of the unit after it
abbrev pub in_unit : (letter : List ℕ) → (seconds : ℕ) → List ℕ → Option ℕ
in_unit letter seconds text = if ends_with nat_eq text letter
    then option_map (λ number. number * seconds) (number_between 0 999_999_999 (take (length text - 1) text)) else None

-- a number of seconds, minutes, hours or days, in seconds
abbrev pub span_of : List ℕ → Option ℕ
span_of text =
    option_or (in_unit (codes "s") 1 text)
    (option_or (in_unit (codes "m") 60 text)
    (option_or (in_unit (codes "h") 3_600 text) (in_unit (codes "d") 86_400 text)))

-- how many seconds ago, which `-` begins
abbrev pub seconds_ago : List ℕ → Option ℕ
seconds_ago text = if starts_with nat_eq text (codes "-") then span_of (drop 1 text) else None
