-- What is wrong with a line that is no request, and what is shown of it.
use Rattle.std.specs.Prelude.{
  ◌-◌,
  ◌==◌,
  ◌||◌,
  ℕ,
  Bool,
  not,
  if◌then◌else◌,
  List,
  Option,
  Some,
  None,
  codes,
  drop,
  length,
  nat_le,
  take,
}
use Rattle.std.specs.List.{prefix_len}
use Rattle.std.specs.Str.{bytes_eq}
use Rattle.opc_cli_failures.specs.declared.bad_line.LineForm.{LineForm}
use Rattle.opc_cli_failures.specs.declared.bad_line.LineForm.TheVariants.{Now, Script}
use Rattle.opc_cli_failures.specs.declared.bad_line.Slip.{Slip}
use Rattle.opc_cli_failures.specs.declared.bad_line.Slip.TheVariants.{NoMoment, LongMoment, NoConsole, Console, NoText, Event}
use Rattle.opc_cli_script.specs.Reading.{is_space, separated}
use Rattle.opc_cli_script.specs.Scripts.{is_number, moment_digits}

abbrev pub word_of : List ℕ → Option (List ℕ × List ℕ) → List ℕ
word_of line None = line
word_of line (Some words) = words.0

-- what stands before the first space
abbrev pub first_word : List ℕ → List ℕ
first_word line = word_of line (separated line)

-- The console may be missing or no name; after `*`, the event may be invalid.
abbrev pub slip_of_request : List ℕ → Slip
slip_of_request who =
    if bytes_eq who (codes "*") then Event else (if length who == 0 then NoConsole else Console)

abbrev pub slip_of_parts : List ℕ → Option (List ℕ × List ℕ) → Slip
slip_of_parts rest None = if length rest == 0 then NoConsole else NoText
slip_of_parts rest (Some words) = slip_of_request words.0

-- and of what follows the timestamp
abbrev pub slip_after : List ℕ → Slip
slip_after rest = slip_of_parts rest (separated rest)

abbrev pub slip_of_words : Option (List ℕ × List ℕ) → Slip
slip_of_words None = NoConsole
slip_of_words (Some words) = slip_after words.1

-- What is wrong with a line first, if it is no request.
abbrev pub slip_in : List ℕ → Slip
slip_in line =
    if not (is_number (first_word line)) then NoMoment else
    (if not (nat_le (length (first_word line)) moment_digits) then LongMoment else slip_of_words (separated line))

-- A word extends to a space or a comma.
abbrev pub is_in_word : ℕ → Bool
is_in_word c = not ((c == 32) || (c == 44))

abbrev pub after_spaces : List ℕ → List ℕ
after_spaces text = drop (prefix_len is_space text) text

-- what follows the first word of a text
abbrev pub past_word : List ℕ → List ℕ
past_word text = drop (prefix_len is_in_word (after_spaces text)) (after_spaces text)

-- what follows the timestamp, or the word in its place
abbrev pub past_moment : LineForm → List ℕ → List ℕ
past_moment Script line = past_word line
past_moment Now line = line

-- What follows the word that is wrong: the timestamp itself, the word after it, or that of an event after `*`.
abbrev pub hidden_after : Slip → List ℕ → List ℕ
hidden_after NoMoment rest = rest
hidden_after LongMoment rest = rest
hidden_after NoConsole rest = past_word rest
hidden_after Console rest = past_word rest
hidden_after NoText rest = past_word rest
hidden_after Event rest = past_word (past_word rest)

-- What is shown of a line: all up to there. A password may follow.
abbrev pub shown_start : LineForm → Slip → List ℕ → List ℕ
shown_start form slip line = take (length line - length (hidden_after slip (past_moment form line))) line
