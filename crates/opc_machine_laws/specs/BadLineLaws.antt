-- Which lines are refused, by which fault and at which place, for those who type them.
use Rattle.std.specs.Prelude.{◌≡◌, ℕ, List, ◌∷◌, ◌++◌, [], Err, codes, replicate}
use Rattle.opc_reader_commands.specs.declared.command.Command.TheVariants.{Log}
use Rattle.opc_reader_commands.specs.declared.piece.Span.{Span}
use Rattle.opc_reader.specs.declared.line.ReadFault.{ReadFault}
use Rattle.opc_reader.specs.declared.line.ReadFault.TheVariants.{
  BadCharacter,
  BadOperand,
  Empty,
  OpenQuote,
  TooLong,
  UnknownVerb,
}
use Rattle.opc_reader.specs.Lines.{fault_words}
use Rattle.opc_reader.specs.Reading.{reading}
use Rattle.opc_machine_laws.specs.ReadingLaws.{IsReadAs, text}

abbrev pub IsRefusedAs : List ℕ → ReadFault → Type 0
IsRefusedAs line fault = reading line ≡ Err fault

abbrev pub from_to : ℕ → ℕ → Span
from_to from to = record { from = from; to = to }

-- L with a text of this many characters, 5 more with all
abbrev pub log_of : ℕ → List ℕ
log_of length = codes "L " ++ 39 ∷ replicate length 65 ++ 39 ∷ []

-- A line has up to 126 characters, from the space to the tilde; places are counted from 0. The first fault is answered:
-- an empty line, one that is too long, a character, the verb, an apostrophe that is not closed, and then the operands,
-- all of them.
pub record LinesAreRefusedSo : Type 0 where
  pub nothing : IsRefusedAs [] Empty
  pub spaces : IsRefusedAs (codes "   ") Empty
  pub as_long_as_may_be : IsReadAs (log_of 122) (Log (text (39 ∷ replicate 122 65 ++ 39 ∷ []) 2))
  pub too_long : IsRefusedAs (log_of 123) TooLong
  pub tab : IsRefusedAs (codes "D" ++ 9 ∷ codes "A,L") (BadCharacter 1)
  pub delete : IsRefusedAs (codes "D A,L" ++ 127 ∷ []) (BadCharacter 5)
  pub character_first : IsRefusedAs (codes "X" ++ 9 ∷ []) (BadCharacter 1)
  pub verb : IsRefusedAs (codes " X PAY1") (UnknownVerb (from_to 1 2))
  pub part_of_a_verb : IsRefusedAs (codes "CANC PAY1") (UnknownVerb (from_to 0 4))
  pub verb_first : IsRefusedAs (codes "LG 'HELLO") (UnknownVerb (from_to 0 2))
  pub log_quote : IsRefusedAs (codes "L 'HELLO") (OpenQuote 2)
  pub send_quote : IsRefusedAs (codes "SE 'HELLO") (OpenQuote 3)
  pub modify_quote : IsRefusedAs (codes "F JES2,'STOP") (OpenQuote 7)
  pub reply_quote : IsRefusedAs (codes "R 7,'YES") (OpenQuote 4)
  pub quote_first : IsRefusedAs (codes "F 123456789,'STOP") (OpenQuote 12)
  pub no_operand : IsRefusedAs (codes "C") (BadOperand (from_to 1 1))
  pub more_operands : IsRefusedAs (codes "LOGOFF NOW") (BadOperand (from_to 7 10))
  pub spaces_around : IsRefusedAs (codes " D   X  ") (BadOperand (from_to 5 6))
  pub long_unit : IsRefusedAs (codes "C PAY123456") (BadOperand (from_to 2 11))
  pub short_console : IsRefusedAs (codes "V CN(C),ONLINE") (BadOperand (from_to 2 14))
  pub long_volume : IsRefusedAs (codes "M 0A80,VOL=VOL0001") (BadOperand (from_to 2 18))
  pub bad_device : IsRefusedAs (codes "U A80") (BadOperand (from_to 2 5))
  pub three_digits : IsRefusedAs (codes "R 100,YES") (BadOperand (from_to 2 9))
  pub no_text : IsRefusedAs (codes "R 7,") (BadOperand (from_to 2 4))
  pub text_without_quotes : IsRefusedAs (codes "L HELLO") (BadOperand (from_to 2 7))
  pub authority : IsRefusedAs (codes "V CN(C1),AUTH=SYS,IO") (BadOperand (from_to 2 20))

-- Worked examples of how a bad line is reported.
pub record LineFaultsReadSo : Type 0 where
  pub empty : fault_words Empty ≡ codes "empty"
  pub long : fault_words TooLong ≡ codes "too long"
  pub character : fault_words (BadCharacter 3) ≡ codes "bad character at 3"
  pub verb : fault_words (UnknownVerb (from_to 0 4)) ≡ codes "unknown verb from 0 to 4"
  pub operand : fault_words (BadOperand (from_to 2 11)) ≡ codes "bad operand from 2 to 11"
  pub quote : fault_words (OpenQuote 7) ≡ codes "open quote at 7"
