-- The kind of the unit that a command names.
use Rattle.std.specs.Prelude.{Result, Ok, Err}
use Rattle.opc_terms.specs.declared.unit_kind.UnitKindAt.{UnitKindAt}
use Rattle.opc_terms.specs.declared.unit_kind.UnitKindAt.TheVariants.{Absent}
use Rattle.opc_reader_commands.specs.declared.command.Command.{Command}
use Rattle.opc_reader.specs.declared.line.ReadFault.{ReadFault}
use Rattle.opc_board.specs.declared.board.BoardRows.{BoardRows}
use Rattle.opc_machine.specs.Commands.{kind_named}

-- by which the machine rules on the command, if the text is one
abbrev pub kind_in : BoardRows → Result Command ReadFault → UnitKindAt
kind_in b (Ok command) = kind_named b command
kind_in b (Err fault) = Absent

-- the kind that is given with --as, or else the one that was found
abbrev pub kind_or : (given found : UnitKindAt) → UnitKindAt
kind_or Absent found = found
kind_or given found = given
