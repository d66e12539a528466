-- What helps somebody who typed a line that is no command.
use Rattle.std.specs.Prelude.{
  ◌++◌,
  ◌==◌,
  ℕ,
  List,
  [],
  Option,
  Some,
  None,
  Result,
  Ok,
  Err,
  codes,
  if◌then◌else◌,
  length,
}
use Rattle.std.specs.List.{find}
use Rattle.std.specs.Str.{bytes_eq}
use Rattle.opc_cli_commands.specs.Nearest.{nearest}
use Rattle.opc_reader.specs.Reading.{reading}
use Rattle.opc_reader.specs.declared.line.ReadFault.{ReadFault}
use Rattle.opc_reader.specs.declared.line.ReadFault.TheVariants.{BadOperand, UnknownVerb}
use Rattle.opc_reader_commands.specs.Stretches.{Stretch, folded}
use Rattle.opc_reader_commands.specs.declared.command.Command.{Command}
use Rattle.opc_cli_commands.specs.Operands.{operands_text}
use Rattle.opc_cli_commands.specs.ShownWords.{first_operand, operands_in, past_operand, verb_in}
use Rattle.opc_cli_commands.specs.VerbRows.{VerbSpellings, full_verbs, is_spelled, shortest, verb_rows}

-- a word that is asked back
abbrev pub question : Option (List ℕ) → List ℕ
question None = []
question (Some word) = codes "; " ++ (word ++ codes "?")

-- a text in quotes, and what follows
abbrev pub quoted : (text more : List ℕ) → List ℕ
quoted text more = codes "\"" ++ (text ++ (codes "\"" ++ more))

-- a word that is no verb
abbrev pub no_verb : (shown word : List ℕ) → List ℕ
no_verb shown word = quoted shown (codes ": no such verb" ++ question (nearest word full_verbs))

abbrev pub row_in : List ℕ → Option VerbSpellings
row_in word = find (is_spelled word) verb_rows

abbrev pub verb_by : Stretch → Option VerbSpellings → List ℕ
verb_by verb None = no_verb verb.text (folded verb.text)
verb_by verb (Some row) = quoted verb.text (codes ": no space follows the verb")

-- what is wrong with the verb of a line
abbrev pub bad_verb : Stretch → List ℕ
bad_verb line = verb_by (verb_in line) (row_in (folded (verb_in line).text))

-- What is shown of a line, since a password may follow: the verb and the first operand, and of a LOGON the verb alone.
abbrev pub mark_of : (rest : List ℕ) → List ℕ
mark_of rest = if length rest == 0 then [] else codes ".."

abbrev pub first_shown : (verb operand rest : List ℕ) → List ℕ
first_shown verb operand rest =
    if length operand == 0 then quoted verb (mark_of rest) else
    codes "\"" ++ (verb ++ (codes " " ++ (operand ++ (codes "\"" ++ mark_of rest))))

abbrev pub shown_operands : List ℕ → Stretch → List ℕ
shown_operands verb operands = first_shown verb (first_operand operands).text (past_operand operands).text

abbrev pub shown : VerbSpellings → List ℕ → Stretch → List ℕ
shown row verb operands =
    if bytes_eq row.full (codes "LOGON") then quoted verb (codes "..") else shown_operands verb operands

-- what a verb takes, as a sentence
abbrev pub takes_by : (full operands : List ℕ) → List ℕ
takes_by full operands =
    if bytes_eq full (codes "LOGON") then operands ++ codes ", with no space between" else
    if length operands == 0 then codes " no operands" else operands

abbrev pub takes_text : VerbSpellings → List ℕ
takes_text row = takes_by row.full (operands_text (shortest row))

-- what is wrong with the operands of a line whose verb has this row
abbrev pub bad_operands : VerbSpellings → (verb operands : Stretch) → List ℕ
bad_operands row verb operands =
    shown row verb.text operands ++ (codes ": " ++ (folded verb.text ++ (codes " takes" ++ takes_text row)))

abbrev pub line_by : (verb operands : Stretch) → Option VerbSpellings → Option (List ℕ)
line_by verb operands None = None
line_by verb operands (Some row) = Some (bad_operands row verb operands)

abbrev pub bad_line : Stretch → Option (List ℕ)
bad_line line = line_by (verb_in line) (operands_in line) (row_in (folded (verb_in line).text))

abbrev pub hint_by : ReadFault → Stretch → Option (List ℕ)
hint_by (UnknownVerb place) line = Some (bad_verb line)
hint_by (BadOperand place) line = bad_line line
hint_by fault line = None

abbrev pub hint_of : Result Command ReadFault → Stretch → Option (List ℕ)
hint_of (Ok command) line = None
hint_of (Err fault) line = hint_by fault line

abbrev pub typed : List ℕ → Stretch
typed text = record { text = text; from = 0 }

-- what helps somebody who typed this line
abbrev pub hint_about : List ℕ → Option (List ℕ)
hint_about line = hint_of (reading line) (typed line)
