-- How a log shows a command as it was typed: without a password.
use Rattle.std.specs.Prelude.{
  ℕ,
  ◌-◌,
  ◌==◌,
  ◌||◌,
  Bool,
  true,
  false,
  List,
  [],
  ◌++◌,
  Result,
  Ok,
  Err,
  codes,
  drop,
  if◌then◌else◌,
  length,
  not,
  take,
}
use Rattle.std.specs.List.{prefix_len}
use Rattle.std.specs.Str.{is_utf8}
use Rattle.opc_reader.specs.Reading.{reading}
use Rattle.opc_reader.specs.declared.line.ReadFault.{ReadFault}
use Rattle.opc_reader.specs.declared.line.ReadFault.TheVariants.{BadOperand}
use Rattle.opc_reader_commands.specs.declared.command.Command.{Command}
use Rattle.opc_reader_commands.specs.declared.command.Command.TheVariants.{Logon}

abbrev pub is_space : ℕ → Bool
is_space c = c == 32

-- A word extends to a space or a comma.
abbrev pub is_in_word : ℕ → Bool
is_in_word c = not ((c == 32) || (c == 44))

abbrev pub after_spaces : List ℕ → List ℕ
after_spaces text = drop (prefix_len is_space text) text

-- the first word of a text
abbrev pub first_word : List ℕ → List ℕ
first_word text = take (prefix_len is_in_word (after_spaces text)) (after_spaces text)

-- what follows it
abbrev pub past_word : List ℕ → List ℕ
past_word text = drop (prefix_len is_in_word (after_spaces text)) (after_spaces text)

abbrev pub is_logon : Command → Bool
is_logon (Logon user password) = true
is_logon command = false

-- what a text is read as
unfoldable pub read_as : List ℕ → Result Command ReadFault
read_as text = reading text

-- a command, or nothing but its operands is wrong
abbrev pub has_verb : Result Command ReadFault → Bool
has_verb (Ok command) = true
has_verb (Err (BadOperand span)) = true
has_verb (Err fault) = false

-- a word that is a command by itself, or lacks its operands
abbrev pub is_verb : List ℕ → Bool
is_verb word = if is_utf8 word then has_verb (read_as word) else false

-- What is not shown: of a LOGON what follows its user. What is no command may be a LOGON that is mistyped: so all that
-- follows its verb, or all of it but spaces before it, if its first word is no verb. Every other command is shown in
-- whole.
abbrev pub hidden_by : Result Command ReadFault → List ℕ → List ℕ
hidden_by (Ok command) text = if is_logon command then past_word (past_word text) else []
hidden_by (Err fault) text = if is_verb (first_word text) then past_word text else after_spaces text

-- what stands for all that is not shown
abbrev pub stars : List ℕ
stars = codes ",********"

-- a text without its end
abbrev pub without : (end text : List ℕ) → List ℕ
without end text = if length end == 0 then text else take (length text - length end) text ++ stars

unfoldable pub typed : List ℕ → List ℕ
typed text = without (hidden_by (read_as text) text) text
