-- The faults of lines and of the board as faults of a request.
use Rattle.opc_terms.specs.declared.fault.Fault.{Fault}
use Rattle.opc_terms.specs.declared.fault.Fault.TheVariants as fault
use Rattle.opc_reader.specs.declared.line.ReadFault.{ReadFault}
use Rattle.opc_reader.specs.declared.line.ReadFault.TheVariants as line
use Rattle.opc_board.specs.declared.fault.BoardFault.{BoardFault}
use Rattle.opc_board.specs.declared.fault.BoardFault.TheVariants as board

abbrev pub line_fault : ReadFault → Fault
line_fault line.Empty = fault.Empty
line_fault line.TooLong = fault.TooLong
line_fault (line.BadCharacter at) = fault.BadCharacter at
line_fault (line.UnknownVerb span) = fault.UnknownVerb span.from span.to
line_fault (line.BadOperand span) = fault.BadOperand span.from span.to
line_fault (line.OpenQuote at) = fault.OpenQuote at

abbrev pub board_fault : BoardFault → Fault
board_fault board.NoUnit = fault.NoUnit
board_fault board.NonCancelable = fault.NonCancelable
board_fault board.Cancelable = fault.Cancelable
board_fault board.UnitExists = fault.UnitExists
board_fault board.NoDevice = fault.NoDevice
board_fault board.DeviceState = fault.DeviceState
board_fault board.DeviceInUse = fault.DeviceInUse
board_fault board.NoVolume = fault.NoVolume
board_fault board.NoReply = fault.NoReply
board_fault board.NoTarget = fault.NoTarget
board_fault board.Halted = fault.Halted
board_fault board.LastMaster = fault.LastMaster
board_fault board.WrongKind = fault.WrongKind
board_fault board.ReplyExists = fault.ReplyExists
board_fault board.NoMemory = fault.NoMemory
