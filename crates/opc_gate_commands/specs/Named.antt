-- The unit that a command names.
use Rattle.std.specs.Prelude.{Option, None}
use Rattle.opc_reader_commands.specs.declared.command.Command.{Command}
use Rattle.opc_reader_commands.specs.declared.command.Command.TheVariants as command
use Rattle.opc_board.specs.declared.board.BoardRows.{BoardRows}
use Rattle.opc_board.specs.declared.rows.UnitRow.{UnitRow}
use Rattle.opc_board.specs.Invariants.{unit_at}

-- the unit that a command names, if the need of the command depends on what the unit is
abbrev pub unit_named : BoardRows → Command → Option UnitRow
unit_named b (command.Cancel name) = unit_at b name.value
unit_named b (command.Force name) = unit_at b name.value
unit_named b (command.Stop name) = unit_at b name.value
unit_named b (command.Modify name text) = unit_at b name.value
unit_named b other = None
