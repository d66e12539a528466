-- The footprint of a command, an event, a logon or a logoff: the rows of the board, by their keys, that it reads or
-- writes. It does on them what it does on the whole board, and leaves all other rows as they are.
use Rattle.std.specs.Prelude.{◌≡◌, ℕ, Bool, true, not, ◌&&◌, List, Ok, Err, filter}
use Rattle.std.specs.List.{AllByRecursion, list_any}
use Rattle.opc_rows.specs.Ordered.{Ascends}
use Rattle.opc_reader_commands.specs.declared.command.Command.{Command}
use Rattle.opc_reader_commands.specs.declared.command.Command.TheVariants.{
  DisplayUnits,
  DisplayUnit,
  DisplayDevices,
  DisplayConsoles,
  DisplayReplies,
  Cancel,
  CancelUser,
  Force,
  Start,
  StartAs,
  Stop,
  Modify,
  Reply,
  VaryDeviceOnline,
  VaryDeviceOffline,
  VaryConsoleOnline,
  VaryConsoleOffline,
  VaryConsoleAuth,
  Mount,
  Unload,
  Swap,
  ResetConsole,
  Send,
  Log,
  Monitor,
  StopMonitor,
  Halt,
  Logon,
  Logoff,
}
use Rattle.opc_board.specs.declared.board.BoardRows.{BoardRows}
use Rattle.opc_board.specs.declared.event.Event.{Event}
use Rattle.opc_board.specs.declared.event.Event.TheVariants.{JobIn, JobEnd, Ask, Attach, Allocate, Free, Resume}
use Rattle.opc_board.specs.declared.rows.ConsoleRow.{ConsoleRow}
use Rattle.opc_board.specs.declared.rows.DeviceRow.{DeviceRow}
use Rattle.opc_board.specs.declared.rows.ReplyRow.{ReplyRow}
use Rattle.opc_board.specs.declared.rows.UnitRow.{UnitRow}
use Rattle.opc_board.specs.Invariants.{Name, is, is_master, unit_before, device_before, console_before, reply_before}
use Rattle.opc_board.specs.Units.{is_holder}
use Rattle.opc_board.specs.Replies.{is_on}
use Rattle.opc_board.specs.Outcome.{BoardOutcome, done}
use Rattle.opc_board.specs.Consoles.{logged_on, logged_off}
use Rattle.opc_board.specs.Effect.{effect, event_effect}

-- The names and numbers of a footprint. Rows are chosen by these alone: a command may change all else of a row, and the
-- footprint afterwards is to be the one before.
pub record Footprint : Type 0 where
  pub units : Name → Bool
  pub devices : Name → Bool
  pub consoles : Name → Bool
  pub replies : ℕ → Bool

abbrev pub has_unit_of : Footprint → UnitRow → Bool
has_unit_of footprint u = footprint.units u.name

abbrev pub has_device_of : Footprint → DeviceRow → Bool
has_device_of footprint d = footprint.devices d.number

abbrev pub has_console_of : Footprint → ConsoleRow → Bool
has_console_of footprint c = footprint.consoles c.name

abbrev pub has_reply_of : Footprint → ReplyRow → Bool
has_reply_of footprint r = footprint.replies r.id

-- the board with the rows of a footprint alone
abbrev pub only : Footprint → BoardRows → BoardRows
only footprint b = record b {
  units = filter (has_unit_of footprint) b.units;
  devices = filter (has_device_of footprint) b.devices;
  consoles = filter (has_console_of footprint) b.consoles;
  replies = filter (has_reply_of footprint) b.replies;
}

-- The other rows are the same on two boards.
pub record AreLeft (footprint : Footprint) (old new : BoardRows) : Type 0 where
  pub units : filter (λ u. not (has_unit_of footprint u)) new.units ≡ filter (λ u. not (has_unit_of footprint u))
      old.units
  pub devices : filter (λ d. not (has_device_of footprint d)) new.devices ≡ filter
      (λ d. not (has_device_of footprint d)) old.devices
  pub consoles : filter (λ c. not (has_console_of footprint c)) new.consoles ≡ filter
      (λ c. not (has_console_of footprint c)) old.consoles
  pub replies : filter (λ r. not (has_reply_of footprint r)) new.replies ≡ filter (λ r. not (has_reply_of footprint r))
      old.replies

-- The rows are in order, so that no name or number comes twice.
pub record IsInOrder (b : BoardRows) : Type 0 where
  pub units : Ascends unit_before b.units
  pub devices : Ascends device_before b.devices
  pub consoles : Ascends console_before b.consoles
  pub replies : Ascends reply_before b.replies

-- an outcome within a footprint: the same fault, or the same lines and the rows of the footprint
abbrev pub outcome_only : Footprint → BoardOutcome → BoardOutcome
outcome_only footprint (Ok d) = Ok (record { board = only footprint d.board; lines = d.lines })
outcome_only footprint (Err fault) = Err fault

-- The board afterwards, if there is one, is in order and has the other rows as they were.
abbrev pub LeavesRest : Footprint → BoardRows → BoardOutcome → Type 0
LeavesRest footprint b (Ok d) = IsInOrder d.board × AreLeft footprint b d.board
LeavesRest footprint b (Err fault) = Unit {0}

-- The result for the rows of a footprint is, within the footprint, the result for the whole board.
abbrev pub IsLocal : Footprint → BoardRows → (BoardRows → BoardOutcome) → Type 0
IsLocal footprint b run = (run (only footprint b) ≡ outcome_only footprint (run b)) × LeavesRest footprint b (run b)

-- an online console has AUTH MASTER, and it is not this one
abbrev pub has_other_master : Name → List ConsoleRow → Bool
has_other_master name consoles = list_any (λ c. is_master c && not (is c.name name)) consoles

-- It has the unit, with the devices that the unit has: they are freed when it leaves.
abbrev pub HasLeaving : Footprint → BoardRows → Name → Type 0
HasLeaving footprint b name = (footprint.units name ≡ true)
    × AllByRecursion (λ d. is_holder name d.unit ≡ true → has_device_of footprint d ≡ true) b.devices

-- It has the console, and another master if there is one: without it this one would be the last.
abbrev pub HasVaried : Footprint → BoardRows → Name → Type 0
HasVaried footprint b name = (footprint.consoles name ≡ true)
    × (has_other_master name (only footprint b).consoles ≡ has_other_master name b.consoles)

-- What the footprint of a command must have: what the command names, and what it depends on besides. A display of all
-- rows needs them all, and SE needs to know whether the user is logged on at some console. Any set with these rows will
-- do.
abbrev pub IsFootprintOf : Footprint → BoardRows → Command → Name → Type 0
IsFootprintOf footprint b DisplayUnits console = (name : Name) → footprint.units name ≡ true
IsFootprintOf footprint b (DisplayUnit name) console = footprint.units name.value ≡ true
IsFootprintOf footprint b DisplayDevices console = (number : Name) → footprint.devices number ≡ true
IsFootprintOf footprint b DisplayConsoles console = (name : Name) → footprint.consoles name ≡ true
IsFootprintOf footprint b DisplayReplies console = (id : ℕ) → footprint.replies id ≡ true
IsFootprintOf footprint b (Cancel name) console = HasLeaving footprint b name.value
IsFootprintOf footprint b (CancelUser user) console = HasLeaving footprint b user.value
IsFootprintOf footprint b (Force name) console = HasLeaving footprint b name.value
IsFootprintOf footprint b (Start member) console = footprint.units member.value ≡ true
IsFootprintOf footprint b (StartAs member id) console = footprint.units id.value ≡ true
IsFootprintOf footprint b (Stop name) console = footprint.units name.value ≡ true
IsFootprintOf footprint b (Modify name text) console = footprint.units name.value ≡ true
IsFootprintOf footprint b (Reply id text) console = footprint.replies id.value ≡ true
IsFootprintOf footprint b (VaryDeviceOnline device) console = footprint.devices device.value ≡ true
IsFootprintOf footprint b (VaryDeviceOffline device) console = footprint.devices device.value ≡ true
IsFootprintOf footprint b (VaryConsoleOnline name) console = HasVaried footprint b name.value
IsFootprintOf footprint b (VaryConsoleOffline name) console = HasVaried footprint b name.value
IsFootprintOf footprint b (VaryConsoleAuth name auth) console = HasVaried footprint b name.value
IsFootprintOf footprint b (Mount device volume) console = footprint.devices device.value ≡ true
IsFootprintOf footprint b (Unload device) console = footprint.devices device.value ≡ true
IsFootprintOf footprint b (Swap from to) console =
    (footprint.devices from.value ≡ true) × (footprint.devices to.value ≡ true)
IsFootprintOf footprint b (ResetConsole name) console = footprint.consoles name.value ≡ true
IsFootprintOf footprint b (Send text user) console =
    (is_on user.value (only footprint b) ≡ is_on user.value b) × (footprint.units user.value ≡ true)
IsFootprintOf footprint b (Log text) console = Unit {0}
IsFootprintOf footprint b Monitor console = footprint.consoles console ≡ true
IsFootprintOf footprint b StopMonitor console = footprint.consoles console ≡ true
IsFootprintOf footprint b Halt console = Unit {0}
IsFootprintOf footprint b (Logon user password) console = Unit {0}
IsFootprintOf footprint b Logoff console = Unit {0}

abbrev pub IsFootprintOfEvent : Footprint → BoardRows → Event → Type 0
IsFootprintOfEvent footprint b (JobIn name kind cancelable) = footprint.units name ≡ true
IsFootprintOfEvent footprint b (JobEnd name) = HasLeaving footprint b name
IsFootprintOfEvent footprint b (Ask id text) = footprint.replies id ≡ true
IsFootprintOfEvent footprint b (Attach device) = footprint.devices device ≡ true
IsFootprintOfEvent footprint b (Allocate device unit) =
    (footprint.devices device ≡ true) × (footprint.units unit ≡ true)
IsFootprintOfEvent footprint b (Free device) = footprint.devices device ≡ true
IsFootprintOfEvent footprint b Resume = Unit {0}

-- A command does on its footprint what it does on the board; and so does an event.
abbrev pub CommandsAreLocal : Type 0
CommandsAreLocal =
    (footprint : Footprint) (b : BoardRows) (command : Command) (console : Name) → IsInOrder b
    → IsFootprintOf footprint b command console
    → IsLocal footprint b (λ c. effect c command console)

abbrev pub EventsAreLocal : Type 0
EventsAreLocal = (footprint : Footprint) (b : BoardRows) (event : Event) → IsInOrder b
    → IsFootprintOfEvent footprint b event → IsLocal footprint b (λ c. event_effect c event)

-- So does a logon or a logoff, whose footprint is its console.
abbrev pub LogonsAreLocal : Type 0
LogonsAreLocal =
    (footprint : Footprint) (b : BoardRows) (name user : Name) → IsInOrder b → footprint.consoles name ≡ true
    → IsLocal footprint b (λ c. done (logged_on name user c))

abbrev pub LogoffsAreLocal : Type 0
LogoffsAreLocal =
    (footprint : Footprint) (b : BoardRows) (name : Name) → IsInOrder b → footprint.consoles name ≡ true
    → IsLocal footprint b (λ c. done (logged_off name c))
