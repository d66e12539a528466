-- The words of a line that are shown: its verb, and the first of its operands.
use Rattle.std.specs.Prelude.{◌==◌, ◌||◌, ℕ, Bool, not}
use Rattle.std.specs.Char.{is_ascii_alphanumeric}
use Rattle.std.specs.List.{prefix_len}
use Rattle.opc_reader.specs.Lines.{skip_spaces}
use Rattle.opc_reader_commands.specs.Stretches.{Stretch, after, prefix}

-- a letter, a digit, or one of `#`, `$`, `@` and `*`
abbrev pub is_in_verb : ℕ → Bool
is_in_verb c = is_ascii_alphanumeric c || ((c == 35) || ((c == 36) || ((c == 64) || (c == 42))))

-- an operand goes on to a space or a comma
abbrev pub is_in_operand : ℕ → Bool
is_in_operand c = not ((c == 32) || (c == 44))

abbrev pub verb_at : Stretch → Stretch
verb_at body = prefix (prefix_len is_in_verb body.text) body

-- the verb of a line, to the first other character
abbrev pub verb_in : Stretch → Stretch
verb_in line = verb_at (skip_spaces line)

abbrev pub operands_at : Stretch → Stretch
operands_at body = skip_spaces (after (prefix_len is_in_verb body.text) body)

abbrev pub operands_in : Stretch → Stretch
operands_in line = operands_at (skip_spaces line)

abbrev pub first_operand : Stretch → Stretch
first_operand operands = prefix (prefix_len is_in_operand operands.text) operands

abbrev pub past_operand : Stretch → Stretch
past_operand operands = after (prefix_len is_in_operand operands.text) operands
