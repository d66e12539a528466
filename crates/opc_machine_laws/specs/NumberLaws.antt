-- By which number each fault of a line and of the board is reported, for those who look it up.
use Rattle.std.specs.Prelude.{◌≡◌, ◌++◌, ℕ, List, codes}
use Rattle.std.specs.Fmt.{decimal}
use Rattle.opc_names.specs.Spellings.{two_digits}
use Rattle.opc_terms.specs.declared.fault.Fault.{Fault}
use Rattle.opc_terms.specs.declared.fault.Fault.TheVariants as fault
use Rattle.opc_terms.specs.Faults.{fault_code, fault_text}
use Rattle.opc_reader.specs.declared.line.ReadFault.{ReadFault}
use Rattle.opc_reader.specs.declared.line.ReadFault.TheVariants as line
use Rattle.opc_board.specs.declared.fault.BoardFault.{BoardFault}
use Rattle.opc_board.specs.declared.fault.BoardFault.TheVariants as board
use Rattle.opc_machine.specs.Faults.{board_fault, line_fault}

-- the number of what is in the way on the board; for a failed allocation, that of a request that is aborted
abbrev pub board_number : BoardFault → List ℕ
board_number board.NoUnit = codes "E30"
board_number board.NonCancelable = codes "E31"
board_number board.Cancelable = codes "E32"
board_number board.UnitExists = codes "E33"
board_number board.NoDevice = codes "E34"
board_number board.DeviceState = codes "E35"
board_number board.DeviceInUse = codes "E36"
board_number board.NoVolume = codes "E37"
board_number board.NoReply = codes "E38"
board_number board.NoTarget = codes "E39"
board_number board.Halted = codes "E40"
board_number board.LastMaster = codes "E41"
board_number board.WrongKind = codes "E42"
board_number board.ReplyExists = codes "E45"
board_number board.NoMemory = codes "E90"

-- the number of what is wrong with a line, and the text that states where
abbrev pub line_number : ReadFault → List ℕ
line_number line.Empty = codes "E01"
line_number line.TooLong = codes "E02"
line_number (line.BadCharacter at) = codes "E03"
line_number (line.UnknownVerb span) = codes "E04"
line_number (line.BadOperand span) = codes "E05"
line_number (line.OpenQuote at) = codes "E06"

abbrev pub line_text : ReadFault → List ℕ
line_text line.Empty = codes "Empty"
line_text line.TooLong = codes "TooLong"
line_text (line.BadCharacter at) = codes "BadCharacter " ++ decimal at
line_text (line.UnknownVerb span) = codes "UnknownVerb " ++ decimal span.from ++ codes " " ++ decimal span.to
line_text (line.BadOperand span) = codes "BadOperand " ++ decimal span.from ++ codes " " ++ decimal span.to
line_text (line.OpenQuote at) = codes "OpenQuote " ++ decimal at

-- Each fault of the board is reported by its number, and no two have the same;
pub record HasItsNumber (fault : BoardFault) : Type 0 where
  pub number : fault_code (board_fault fault) ≡ board_number fault
  pub alone : (other : BoardFault) → board_fault other ≡ board_fault fault → other ≡ fault

abbrev pub BoardFaultsAreDistinct : Type 0
BoardFaultsAreDistinct = (fault : BoardFault) → HasItsNumber fault

-- and so is each fault of a line, with its place.
pub record HasItsPlace (fault : ReadFault) : Type 0 where
  pub number : fault_code (line_fault fault) ≡ line_number fault
  pub text : fault_text (line_fault fault) ≡ line_text fault
  pub alone : (other : ReadFault) → line_fault other ≡ line_fault fault → other ≡ fault

abbrev pub LineFaultsAreDistinct : Type 0
LineFaultsAreDistinct = (fault : ReadFault) → HasItsPlace fault

-- the number of every fault of a request: 1 to 6 of its line, 10 to 17 of its console and logon, 20 and 21 of the
-- policy, 30 to 45 of the board, 50 to 60 of administration, and from 90 on if it is aborted or the tables are another
-- program's
abbrev pub number : Fault → ℕ
number fault.Empty = 1
number fault.TooLong = 2
number (fault.BadCharacter at) = 3
number (fault.UnknownVerb from to) = 4
number (fault.BadOperand from to) = 5
number (fault.OpenQuote at) = 6
number fault.NoConsole = 10
number fault.ConsoleOffline = 11
number fault.LogonRequired = 12
number fault.Revoked = 13
number fault.BadLogon = 14
number (fault.AlreadyOn user) = 15
number fault.NotOn = 16
number fault.DeniedConsole = 17
number fault.DeniedProfile = 20
number fault.DeniedGroup = 21
number fault.NoUnit = 30
number fault.NonCancelable = 31
number fault.Cancelable = 32
number fault.UnitExists = 33
number fault.NoDevice = 34
number fault.DeviceState = 35
number fault.DeviceInUse = 36
number fault.NoVolume = 37
number fault.NoReply = 38
number fault.NoTarget = 39
number fault.Halted = 40
number fault.LastMaster = 41
number fault.WrongKind = 42
number fault.ReplyExists = 45
number fault.NotSpecial = 50
number fault.NotOwner = 51
number (fault.Exists subject) = 52
number (fault.Missing subject) = 53
number (fault.InUse subject) = 55
number fault.BatchChanged = 56
number fault.NotEmpty = 57
number (fault.RowFault row why) = 60
number fault.NoMemory = 90
number fault.Store = 91
number (fault.NotOurs version) = 92

-- A fault's code is E and its number.
abbrev pub FaultsHaveTheirNumbers : Type 0
FaultsHaveTheirNumbers = (f : Fault) → fault_code f ≡ codes "E" ++ two_digits (number f)
