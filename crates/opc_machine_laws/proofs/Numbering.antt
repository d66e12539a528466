-- By which number each fault is reported, and what an authority enters.
use Rattle.std.proofs.Common.{◌≡◌, Option, Some, None, refl, sym, ap, ◌∙◌, rules}
use Rattle.std.specs.Fmt.{digits}
use Rattle.opc_names.specs.declared.auth.Auth.TheVariants as auth
use Rattle.opc_terms.specs.declared.fault.Fault.{Fault}
use Rattle.opc_terms.specs.declared.fault.Fault.TheVariants as fault
use Rattle.opc_reader.specs.declared.line.ReadFault.{ReadFault}
use Rattle.opc_reader.specs.declared.line.ReadFault.TheVariants as line
use Rattle.opc_board.specs.declared.fault.BoardFault.{BoardFault}
use Rattle.opc_board.specs.declared.fault.BoardFault.TheVariants as board
use Rattle.opc_machine.specs.Faults.{board_fault, line_fault}
use Rattle.opc_machine_laws.specs.NeedLaws.{AuthoritiesEnterTheirGroups}
use Rattle.opc_machine_laws.specs.NumberLaws.{BoardFaultsAreDistinct, FaultsHaveTheirNumbers, LineFaultsAreDistinct}

-- a fault of the board, read back
abbrev board_of : Fault → Option BoardFault
board_of fault.NoUnit = Some board.NoUnit
board_of fault.NonCancelable = Some board.NonCancelable
board_of fault.Cancelable = Some board.Cancelable
board_of fault.UnitExists = Some board.UnitExists
board_of fault.NoDevice = Some board.NoDevice
board_of fault.DeviceState = Some board.DeviceState
board_of fault.DeviceInUse = Some board.DeviceInUse
board_of fault.NoVolume = Some board.NoVolume
board_of fault.NoReply = Some board.NoReply
board_of fault.NoTarget = Some board.NoTarget
board_of fault.Halted = Some board.Halted
board_of fault.LastMaster = Some board.LastMaster
board_of fault.WrongKind = Some board.WrongKind
board_of fault.ReplyExists = Some board.ReplyExists
board_of fault.NoMemory = Some board.NoMemory
board_of other = None

board_back : (f : BoardFault) → board_of (board_fault f) ≡ Some f
board_back board.NoUnit = refl
board_back board.NonCancelable = refl
board_back board.Cancelable = refl
board_back board.UnitExists = refl
board_back board.NoDevice = refl
board_back board.DeviceState = refl
board_back board.DeviceInUse = refl
board_back board.NoVolume = refl
board_back board.NoReply = refl
board_back board.NoTarget = refl
board_back board.Halted = refl
board_back board.LastMaster = refl
board_back board.WrongKind = refl
board_back board.ReplyExists = refl
board_back board.NoMemory = refl

board_alone : (f g : BoardFault) → board_fault g ≡ board_fault f → g ≡ f
board_alone f g h = let same : ◌≡◌ {A = Option BoardFault} (Some g) (Some f) = sym (board_back g) ∙ ap board_of h ∙ board_back f in search (rules, same)

pub board_reported : BoardFaultsAreDistinct
board_reported board.NoUnit = record { number = refl; alone = board_alone board.NoUnit }
board_reported board.NonCancelable = record { number = refl; alone = board_alone board.NonCancelable }
board_reported board.Cancelable = record { number = refl; alone = board_alone board.Cancelable }
board_reported board.UnitExists = record { number = refl; alone = board_alone board.UnitExists }
board_reported board.NoDevice = record { number = refl; alone = board_alone board.NoDevice }
board_reported board.DeviceState = record { number = refl; alone = board_alone board.DeviceState }
board_reported board.DeviceInUse = record { number = refl; alone = board_alone board.DeviceInUse }
board_reported board.NoVolume = record { number = refl; alone = board_alone board.NoVolume }
board_reported board.NoReply = record { number = refl; alone = board_alone board.NoReply }
board_reported board.NoTarget = record { number = refl; alone = board_alone board.NoTarget }
board_reported board.Halted = record { number = refl; alone = board_alone board.Halted }
board_reported board.LastMaster = record { number = refl; alone = board_alone board.LastMaster }
board_reported board.WrongKind = record { number = refl; alone = board_alone board.WrongKind }
board_reported board.ReplyExists = record { number = refl; alone = board_alone board.ReplyExists }
board_reported board.NoMemory = record { number = refl; alone = board_alone board.NoMemory }

-- and the same for a line
abbrev line_of : Fault → Option ReadFault
line_of fault.Empty = Some line.Empty
line_of fault.TooLong = Some line.TooLong
line_of (fault.BadCharacter at) = Some (line.BadCharacter at)
line_of (fault.UnknownVerb from to) = Some (line.UnknownVerb (record { from = from; to = to }))
line_of (fault.BadOperand from to) = Some (line.BadOperand (record { from = from; to = to }))
line_of (fault.OpenQuote at) = Some (line.OpenQuote at)
line_of other = None

line_back : (f : ReadFault) → line_of (line_fault f) ≡ Some f
line_back line.Empty = refl
line_back line.TooLong = refl
line_back (line.BadCharacter at) = refl
line_back (line.UnknownVerb span) = refl
line_back (line.BadOperand span) = refl
line_back (line.OpenQuote at) = refl

line_alone : (f g : ReadFault) → line_fault g ≡ line_fault f → g ≡ f
line_alone f g h = let same : ◌≡◌ {A = Option ReadFault} (Some g) (Some f) = sym (line_back g) ∙ ap line_of h ∙ line_back f in search (rules, same)

pub line_reported : LineFaultsAreDistinct
line_reported line.Empty = record { number = refl; text = refl; alone = line_alone line.Empty }
line_reported line.TooLong = record { number = refl; text = refl; alone = line_alone line.TooLong }
line_reported (line.BadCharacter at) = record { number = refl; text = refl; alone = line_alone (line.BadCharacter at) }
line_reported (line.UnknownVerb span) = record { number = refl; text = refl; alone = line_alone (line.UnknownVerb span) }
line_reported (line.BadOperand span) = record { number = refl; text = refl; alone = line_alone (line.BadOperand span) }
line_reported (line.OpenQuote at) = record { number = refl; text = refl; alone = line_alone (line.OpenQuote at) }

pub authorities_enter : AuthoritiesEnterTheirGroups
authorities_enter auth.Master = refl
authorities_enter auth.All = refl
authorities_enter auth.Info = refl
authorities_enter auth.Sys = refl
authorities_enter auth.Io = refl
authorities_enter auth.Cons = refl
authorities_enter auth.SysIo = refl
authorities_enter auth.SysCons = refl
authorities_enter auth.IoCons = refl
authorities_enter auth.SysIoCons = refl

pub numbered : FaultsHaveTheirNumbers
unfolding digits
numbered fault.Empty = refl
numbered fault.TooLong = refl
numbered (fault.BadCharacter at) = refl
numbered (fault.UnknownVerb from to) = refl
numbered (fault.BadOperand from to) = refl
numbered (fault.OpenQuote at) = refl
numbered fault.NoConsole = refl
numbered fault.ConsoleOffline = refl
numbered fault.LogonRequired = refl
numbered fault.Revoked = refl
numbered fault.BadLogon = refl
numbered (fault.AlreadyOn user) = refl
numbered fault.NotOn = refl
numbered fault.DeniedConsole = refl
numbered fault.DeniedProfile = refl
numbered fault.DeniedGroup = refl
numbered fault.NoUnit = refl
numbered fault.NonCancelable = refl
numbered fault.Cancelable = refl
numbered fault.UnitExists = refl
numbered fault.NoDevice = refl
numbered fault.DeviceState = refl
numbered fault.DeviceInUse = refl
numbered fault.NoVolume = refl
numbered fault.NoReply = refl
numbered fault.NoTarget = refl
numbered fault.Halted = refl
numbered fault.LastMaster = refl
numbered fault.WrongKind = refl
numbered fault.ReplyExists = refl
numbered fault.NotSpecial = refl
numbered fault.NotOwner = refl
numbered (fault.Exists subject) = refl
numbered (fault.Missing subject) = refl
numbered (fault.InUse subject) = refl
numbered fault.BatchChanged = refl
numbered fault.NotEmpty = refl
numbered (fault.RowFault row why) = refl
numbered fault.NoMemory = refl
numbered fault.Store = refl
numbered (fault.NotOurs version) = refl
