-- Which lines are commands, and the first fault of those that are not.
use Rattle.std.specs.Prelude.{
  ◌≡◌,
  ◌≤◌,
  ◌+◌,
  ◌-◌,
  ◌==◌,
  ◌&&◌,
  ℕ,
  Bool,
  not,
  ◌⊎◌,
  ◌↔◌,
  List,
  [],
  ◌∷◌,
  ◌++◌,
  Option,
  Some,
  None,
  true,
  if◌then◌else◌,
  length,
  nat_lt,
  nat_le,
  drop,
  codes,
}
use Rattle.std.specs.Fmt.{decimal}
use Rattle.std.specs.Option.{option_map}
use Rattle.std.specs.List.{list_all, position, prefix_len, suffix_len, slice_range, flat_map, AllByRecursion}
use Rattle.std.specs.Str.{chars}
use Rattle.opc_names.specs.Spellings.{lookup}
use Rattle.opc_reader_commands.specs.declared.piece.Span.{Span}
use Rattle.opc_reader.specs.declared.verb.Verb.{Verb}
use Rattle.opc_reader.specs.declared.verb.Verb.TheVariants as verb
use Rattle.opc_reader_commands.specs.declared.command.Command.{Command}
use Rattle.opc_reader.specs.declared.line.ReadFault.{ReadFault}
use Rattle.opc_reader.specs.declared.line.ReadFault.TheVariants.{
  Empty,
  TooLong,
  BadCharacter,
  UnknownVerb,
  OpenQuote,
  BadOperand,
}
use Rattle.opc_reader.specs.Forms.{
  Part,
  Word,
  Name,
  Number,
  Authority,
  QuotedText,
  AnyText,
  verb_of,
  parts,
  IsMeant,
  AreTyped,
}
use Rattle.opc_reader_commands.specs.Quotes.{is_open}
use Rattle.opc_reader_commands.specs.Stretches.{Stretch, folded, prefix, after}
use Rattle.opc_reader.specs.Verbs.{verbs}

abbrev pub is_space : ℕ → Bool
is_space c = c == 32

-- from the space to the tilde
abbrev pub is_typeable : ℕ → Bool
is_typeable c = nat_le 32 c && nat_le c 126

abbrev pub AreSpaces : List ℕ → Type 0
AreSpaces text = list_all is_space text ≡ true

-- neither begins nor ends with a space
abbrev pub IsBare : List ℕ → Type 0
IsBare text = (prefix_len is_space text ≡ 0) × (suffix_len is_space text ≡ 0)

-- A line of at most 126 typeable characters is read as a command: spaces or none, a spelling of its verb in any case,
-- one or more spaces, its operands part by part, spaces or none. A command without operands has no spaces between verb
-- and operands.
pub record Reads (line : List ℕ) (c : Command) : Type 0 where
  pub before : List ℕ
  pub verb : List ℕ
  pub gap : List ℕ
  pub operands : List ℕ
  pub after : List ℕ
  pub whole : line ≡ before ++ (verb ++ (gap ++ (operands ++ after)))
  pub short : length (chars line) ≤ 126
  pub typeable : list_all is_typeable line ≡ true
  pub before_verb : AreSpaces before
  pub after_verb : AreSpaces gap
  pub after_operands : AreSpaces after
  pub separated : (operands ≡ []) ↔ (gap ≡ [])
  pub bare : IsBare operands
  pub spelled : lookup verbs (folded verb) ≡ Some (verb_of c)
  pub typed : AreTyped (parts c) (record { text = operands; from = length before + length verb + length gap })
  pub meant : IsMeant c

abbrev pub skip_spaces : Stretch → Stretch
skip_spaces s = after (prefix_len is_space s.text) s

-- a line without the spaces around it
abbrev pub trimmed : List ℕ → Stretch
trimmed line = skip_spaces (prefix (length line - suffix_len is_space line) (record { text = line; from = 0 }))

-- up to its first space, and from the next character on that is not a space
abbrev pub verb_place : Stretch → Stretch
verb_place s = prefix (prefix_len (λ c. not (is_space c)) s.text) s

abbrev pub operands_place : Stretch → Stretch
operands_place s = skip_spaces (after (prefix_len (λ c. not (is_space c)) s.text) s)

abbrev pub span : Stretch → Span
span s = record { from = s.from; to = s.from + length s.text }

-- The place of a quoted text that is not closed: after the first comma of F and R, whatever is before it, and as the
-- first operand of SE and L. 44 is the comma.
abbrev pub open_at : ℕ → List ℕ → Option ℕ
open_at at text = if is_open text then Some at else None

abbrev pub open_after : Option ℕ → Stretch → Option ℕ
open_after None s = None
open_after (Some comma) s = open_at (s.from + comma + 1) (drop (comma + 1) s.text)

abbrev pub open_place : Verb → Stretch → Option ℕ
open_place verb.Modify s = open_after (position (λ c. c == 44) s.text) s
open_place verb.Reply s = open_after (position (λ c. c == 44) s.text) s
open_place verb.Send s = open_at s.from s.text
open_place verb.Log s = open_at s.from s.text
open_place v s = None

abbrev pub some_fault : Option ℕ → (ℕ → ReadFault) → Option ReadFault → Option ReadFault
some_fault (Some at) fault next = Some (fault at)
some_fault None fault next = next

abbrev pub quote_fault : Option Verb → Stretch → Option ReadFault
quote_fault None s = Some (UnknownVerb (span (verb_place s)))
quote_fault (Some v) s = option_map OpenQuote (open_place v (operands_place s))

-- the first fault of a line, but for its operands
abbrev pub early_fault : List ℕ → Option ReadFault
early_fault line =
    if list_all is_space line then Some Empty else
    (if nat_lt 126 (length (chars line)) then Some TooLong else
    some_fault (position (λ c. not (is_typeable c)) line) BadCharacter
    (quote_fault (lookup verbs (folded (verb_place (trimmed line)).text)) (trimmed line)))

-- The first fault of a line. Operands are bad if nothing earlier is wrong and yet the line is no command; their place
-- is all of them, up to the end of the trimmed line.
abbrev pub IsReadFault : List ℕ → ReadFault → Type 0
IsReadFault line fault =
    (early_fault line ≡ Some fault) ⊎
    ((early_fault line ≡ None) × ((c : Command) → Reads line c → ⊥)
    × (fault ≡ BadOperand (span (operands_place (trimmed line)))))

-- the words for a fault
abbrev pub span_words : Span → List ℕ
span_words s = codes " from " ++ (decimal s.from ++ (codes " to " ++ decimal s.to))

abbrev pub fault_words : ReadFault → List ℕ
fault_words Empty = codes "empty"
fault_words TooLong = codes "too long"
fault_words (BadCharacter at) = codes "bad character at " ++ decimal at
fault_words (UnknownVerb s) = codes "unknown verb" ++ span_words s
fault_words (BadOperand s) = codes "bad operand" ++ span_words s
fault_words (OpenQuote at) = codes "open quote at " ++ decimal at

-- each line is one command, or has one fault, and not both
abbrev pub ReadsInOneWay : List ℕ → Type 0
ReadsInOneWay line =
    ((c : Command) × Reads line c × ((d : Command) → Reads line d → d ≡ c)
    × ((fault : ReadFault) → IsReadFault line fault → ⊥)) ⊎
    ((fault : ReadFault) × IsReadFault line fault × ((other : ReadFault) → IsReadFault line other → other ≡ fault)
    × ((c : Command) → Reads line c → ⊥))

-- where a part was typed, if it is an operand
abbrev pub typed_of : Part → List Stretch
typed_of (Word w) = []
typed_of (Name rule o) = o.typed ∷ []
typed_of (Number o) = o.typed ∷ []
typed_of (Authority o) = o.typed ∷ []
typed_of (QuotedText t) = t.typed ∷ []
typed_of (AnyText t) = t.typed ∷ []

-- the text of a stretch is that of the line at its span
abbrev pub IsSliceOf : List ℕ → Stretch → Type 0
IsSliceOf line s = (s.from + length s.text ≤ length line) × (slice_range line s.from (s.from + length s.text) ≡ s.text)

abbrev pub OperandsAreSlices : List ℕ → Command → Type 0
OperandsAreSlices line c = AllByRecursion (IsSliceOf line) (flat_map typed_of (parts c))
