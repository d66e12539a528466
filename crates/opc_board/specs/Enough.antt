-- The smallest footprint of a command or an event: the rows that it names, and those that it depends on.
use Rattle.std.specs.Prelude.{ℕ, Bool, true, false, ◌||◌, ◌==◌, Option, Some, None}
use Rattle.opc_reader_commands.specs.declared.command.Command.{Command}
use Rattle.opc_reader_commands.specs.declared.command.Command.TheVariants.{
  DisplayUnits,
  DisplayUnit,
  DisplayDevices,
  DisplayConsoles,
  DisplayReplies,
  Cancel,
  CancelUser,
  Force,
  Start,
  StartAs,
  Stop,
  Modify,
  Reply,
  VaryDeviceOnline,
  VaryDeviceOffline,
  VaryConsoleOnline,
  VaryConsoleOffline,
  VaryConsoleAuth,
  Mount,
  Unload,
  Swap,
  ResetConsole,
  Send,
  Log,
  Monitor,
  StopMonitor,
  Halt,
  Logon,
  Logoff,
}
use Rattle.opc_board.specs.declared.board.BoardRows.{BoardRows}
use Rattle.opc_board.specs.declared.event.Event.{Event}
use Rattle.opc_board.specs.declared.event.Event.TheVariants.{JobIn, JobEnd, Ask, Attach, Allocate, Free, Resume}
use Rattle.opc_board.specs.Invariants.{Name, is, is_master, console_at, device_at}
use Rattle.opc_board.specs.Units.{is_holder}
use Rattle.opc_board.specs.Footprint.{IsInOrder, Footprint, IsFootprintOf, IsFootprintOfEvent}

-- a row is there, and passes
abbrev pub has : {R : Type 0} → (R → Bool) → Option R → Bool
has test (Some row) = test row
has test None = false

abbrev pub no_rows : Footprint
no_rows = record { units = λ _. false; devices = λ _. false; consoles = λ _. false; replies = λ _. false }

abbrev pub unit_alone : Name → Footprint
unit_alone name = record no_rows { units = λ n. is n name }

abbrev pub device_alone : Name → Footprint
device_alone number = record no_rows { devices = λ n. is n number }

abbrev pub console_alone : Name → Footprint
console_alone name = record no_rows { consoles = λ n. is n name }

abbrev pub reply_alone : ℕ → Footprint
reply_alone id = record no_rows { replies = λ n. n == id }

-- a unit and the devices that it has
abbrev pub leaving : BoardRows → Name → Footprint
leaving b name = record (unit_alone name) { devices = λ n. has (λ d. is_holder name d.unit) (device_at b n) }

-- a console and the masters
abbrev pub varying : BoardRows → Name → Footprint
varying b name = record no_rows { consoles = λ n. is n name || has is_master (console_at b n) }

-- a user's session and the consoles where the user is logged on
abbrev pub addressed : BoardRows → Name → Footprint
addressed b user = record (unit_alone user) { consoles = λ n. has (λ c. is_holder user c.user) (console_at b n) }

abbrev pub enough : BoardRows → Command → Name → Footprint
enough b DisplayUnits console = record no_rows { units = λ _. true }
enough b (DisplayUnit name) console = unit_alone name.value
enough b DisplayDevices console = record no_rows { devices = λ _. true }
enough b DisplayConsoles console = record no_rows { consoles = λ _. true }
enough b DisplayReplies console = record no_rows { replies = λ _. true }
enough b (Cancel name) console = leaving b name.value
enough b (CancelUser user) console = leaving b user.value
enough b (Force name) console = leaving b name.value
enough b (Start member) console = unit_alone member.value
enough b (StartAs member id) console = unit_alone id.value
enough b (Stop name) console = unit_alone name.value
enough b (Modify name text) console = unit_alone name.value
enough b (Reply id text) console = reply_alone id.value
enough b (VaryDeviceOnline device) console = device_alone device.value
enough b (VaryDeviceOffline device) console = device_alone device.value
enough b (VaryConsoleOnline name) console = varying b name.value
enough b (VaryConsoleOffline name) console = varying b name.value
enough b (VaryConsoleAuth name auth) console = varying b name.value
enough b (Mount device volume) console = device_alone device.value
enough b (Unload device) console = device_alone device.value
enough b (Swap from to) console = record no_rows { devices = λ n. is n from.value || is n to.value }
enough b (ResetConsole name) console = console_alone name.value
enough b (Send text user) console = addressed b user.value
enough b (Log text) console = no_rows
enough b Monitor console = console_alone console
enough b StopMonitor console = console_alone console
enough b Halt console = no_rows
enough b (Logon user password) console = no_rows
enough b Logoff console = no_rows

abbrev pub enough_for_event : BoardRows → Event → Footprint
enough_for_event b (JobIn name kind cancelable) = unit_alone name
enough_for_event b (JobEnd name) = leaving b name
enough_for_event b (Ask id text) = reply_alone id
enough_for_event b (Attach device) = device_alone device
enough_for_event b (Allocate device unit) = record (unit_alone unit) { devices = λ n. is n device }
enough_for_event b (Free device) = device_alone device
enough_for_event b Resume = no_rows

-- These rows are a footprint.
abbrev pub FewRowsSuffice : Type 0
FewRowsSuffice =
    (b : BoardRows) → IsInOrder b
    → ((command : Command) (console : Name) → IsFootprintOf (enough b command console) b command console)
    × ((event : Event) → IsFootprintOfEvent (enough_for_event b event) b event)
