-- What a command needs, by its text.
use Rattle.std.specs.Prelude.{
  ℕ,
  Bool,
  false,
  true,
  not,
  ◌&&◌,
  List,
  Option,
  Some,
  None,
  Result,
  Ok,
  Err,
  codes,
  drop,
  take,
}
use Rattle.std.specs.List.{prefix_len}
use Rattle.std.specs.Str.{str_eq_ignore_ascii_case}
use Rattle.opc_terms.specs.declared.fault.Fault.{Fault}
use Rattle.opc_terms.specs.declared.need.Need.{Need}
use Rattle.opc_terms.specs.declared.unit_kind.UnitKindAt.{UnitKindAt}
use Rattle.opc_reader_commands.specs.declared.command.Command.{Command}
use Rattle.opc_reader_commands.specs.declared.command.Command.TheVariants.{Cancel, DisplayUnit, Force, Stop, Modify}
use Rattle.opc_reader.specs.declared.line.ReadFault.{ReadFault}
use Rattle.opc_reader.specs.declared.line.ReadFault.TheVariants.{BadOperand}
use Rattle.opc_reader.specs.Lines.{is_space}
use Rattle.opc_reader.specs.Reading.{reading}
use Rattle.opc_table.specs.Table.{need}
use Rattle.opc_board.specs.declared.line.Item.TheVariants.{Unit as AboutUnit}
use Rattle.opc_machine.specs.Faults.{line_fault}
use Rattle.opc_machine.specs.Rulings.{need_to_show}

-- what a command needs, if it needs anything, by the kind of the unit that it names; or why the text is no command
abbrev pub need_by : Result Command ReadFault → UnitKindAt → Result (Option Need) Fault
need_by (Ok c) kind = Ok (need c kind)
need_by (Err fault) kind = Err (line_fault fault)

abbrev pub need_in : List ℕ → UnitKindAt → Result (Option Need) Fault
need_in text kind = need_by (reading text) kind

-- the first word of a text, after spaces or none
abbrev pub word_at : List ℕ → List ℕ
word_at text = take (prefix_len (λ c. not (is_space c)) text) text

abbrev pub first_word : List ℕ → List ℕ
first_word text = word_at (drop (prefix_len is_space text) text)

-- whether a text is a command, or would be one but for its operands
abbrev pub has_verb : Result Command ReadFault → Bool
has_verb (Ok c) = true
has_verb (Err (BadOperand span)) = true
has_verb (Err other) = false

-- whether a text asks for a LOGON; its operands do not count, and may be missing
abbrev pub is_logon : List ℕ → Bool
is_logon text = has_verb (reading text) && str_eq_ignore_ascii_case (first_word text) (codes "LOGON")

-- the unit that a command names, if what the command needs depends on its kind
abbrev pub unit_named : Command → UnitKindAt → Option UnitKindAt
unit_named (Cancel name) kind = Some kind
unit_named (Force name) kind = Some kind
unit_named (Stop name) kind = Some kind
unit_named (Modify name text) kind = Some kind
unit_named other kind = None

abbrev pub unit_by : Result Command ReadFault → UnitKindAt → Option UnitKindAt
unit_by (Ok c) kind = unit_named c kind
unit_by (Err fault) kind = None

abbrev pub unit_in : List ℕ → UnitKindAt → Option UnitKindAt
unit_in text kind = unit_by (reading text) kind

-- what the line needs that a command asks for: D A,name asks for the line of one unit
abbrev pub line_named : Command → Option Need
line_named (DisplayUnit name) = need_to_show (AboutUnit name.value)
line_named other = None

abbrev pub line_by : Result Command ReadFault → Option Need
line_by (Ok c) = line_named c
line_by (Err fault) = None

abbrev pub line_in : List ℕ → Option Need
line_in text = line_by (reading text)
