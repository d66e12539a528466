-- What each command and each event does to a board: the board afterwards and the lines, or the first fault.
use Rattle.std.specs.Prelude.{Bool, true, false, map}
use Rattle.opc_reader_commands.specs.declared.command.Command.{Command}
use Rattle.opc_reader_commands.specs.declared.command.Command.TheVariants.{
  DisplayUnits,
  DisplayUnit,
  DisplayDevices,
  DisplayConsoles,
  DisplayReplies,
  Cancel,
  CancelUser,
  Force,
  Start,
  StartAs,
  Stop,
  Modify,
  Reply,
  VaryDeviceOnline,
  VaryDeviceOffline,
  VaryConsoleOnline,
  VaryConsoleOffline,
  VaryConsoleAuth,
  Mount,
  Unload,
  Swap,
  ResetConsole,
  Send,
  Log,
  Monitor,
  StopMonitor,
  Halt,
  Logon,
  Logoff,
}
use Rattle.opc_reader_commands.specs.Quotes.{text_value}
use Rattle.opc_board.specs.declared.board.BoardRows.{BoardRows}
use Rattle.opc_board.specs.declared.event.Event.{Event}
use Rattle.opc_board.specs.declared.event.Event.TheVariants.{JobIn, JobEnd, Ask, Attach, Allocate, Free, Resume}
use Rattle.opc_board.specs.Invariants.{Name, unit_at}
use Rattle.opc_board.specs.Texts.{unit_line, lines_of, device_line, console_line, reply_line}
use Rattle.opc_board.specs.Outcome.{BoardOutcome, done, done_with}
use Rattle.opc_board.specs.Units.{cancel, cancel_user, force, job_end, job_in, start, stop, modify}
use Rattle.opc_board.specs.Devices.{vary_online, vary_offline, mount, unload, swap, attach, allocate, free}
use Rattle.opc_board.specs.Consoles.{
  vary_console_online,
  vary_console_offline,
  vary_console_auth,
  reset_console,
  monitored,
}
use Rattle.opc_board.specs.Replies.{reply, ask, send, log_line, halt, resumed}

-- A command that is typed at a console. LOGON and LOGOFF leave the board to whoever checks the password.
abbrev pub effect : BoardRows → Command → Name → BoardOutcome
effect b DisplayUnits console = done_with b (map unit_line b.units)
effect b (DisplayUnit name) console = done_with b (lines_of (unit_at b name.value))
effect b DisplayDevices console = done_with b (map device_line b.devices)
effect b DisplayConsoles console = done_with b (map console_line b.consoles)
effect b DisplayReplies console = done_with b (map (λ r. reply_line r.id r.text) b.replies)
effect b (Cancel name) console = cancel name.value b
effect b (CancelUser user) console = cancel_user user.value b
effect b (Force name) console = force name.value b
effect b (Start member) console = start member.value member.value b
effect b (StartAs member id) console = start member.value id.value b
effect b (Stop name) console = stop name.value b
effect b (Modify name text) console = modify name.value (text_value text.typed.text) b
effect b (Reply id text) console = reply id.value (text_value text.typed.text) b
effect b (VaryDeviceOnline device) console = vary_online device.value b
effect b (VaryDeviceOffline device) console = vary_offline device.value b
effect b (VaryConsoleOnline name) console = vary_console_online name.value b
effect b (VaryConsoleOffline name) console = vary_console_offline name.value b
effect b (VaryConsoleAuth name auth) console = vary_console_auth name.value auth.value b
effect b (Mount device volume) console = mount device.value volume.value b
effect b (Unload device) console = unload device.value b
effect b (Swap from to) console = swap from.value to.value b
effect b (ResetConsole name) console = reset_console name.value b
effect b (Send text user) console = send user.value (text_value text.typed.text) b
effect b (Log text) console = log_line (text_value text.typed.text) b
effect b Monitor console = done (monitored console true b)
effect b StopMonitor console = done (monitored console false b)
effect b Halt console = halt b
effect b (Logon user password) console = done b
effect b Logoff console = done b

-- the commands of a session, which are not the board's
abbrev pub is_session_command : Command → Bool
is_session_command DisplayUnits = false
is_session_command (DisplayUnit name) = false
is_session_command DisplayDevices = false
is_session_command DisplayConsoles = false
is_session_command DisplayReplies = false
is_session_command (Cancel name) = false
is_session_command (CancelUser user) = false
is_session_command (Force name) = false
is_session_command (Start member) = false
is_session_command (StartAs member id) = false
is_session_command (Stop name) = false
is_session_command (Modify name text) = false
is_session_command (Reply id text) = false
is_session_command (VaryDeviceOnline device) = false
is_session_command (VaryDeviceOffline device) = false
is_session_command (VaryConsoleOnline name) = false
is_session_command (VaryConsoleOffline name) = false
is_session_command (VaryConsoleAuth name auth) = false
is_session_command (Mount device volume) = false
is_session_command (Unload device) = false
is_session_command (Swap from to) = false
is_session_command (ResetConsole name) = false
is_session_command (Send text user) = false
is_session_command (Log text) = false
is_session_command Monitor = false
is_session_command StopMonitor = false
is_session_command Halt = false
is_session_command (Logon user password) = true
is_session_command Logoff = true

-- the commands that change the board or meet a fault, and give no lines
abbrev pub is_change : Command → Bool
is_change DisplayUnits = false
is_change (DisplayUnit name) = false
is_change DisplayDevices = false
is_change DisplayConsoles = false
is_change DisplayReplies = false
is_change (Reply id text) = false
is_change (Logon user password) = false
is_change Logoff = false
is_change command = true

-- an event, which gives no line
abbrev pub event_effect : BoardRows → Event → BoardOutcome
event_effect b (JobIn name kind cancelable) = job_in name kind cancelable b
event_effect b (JobEnd name) = job_end name b
event_effect b (Ask id text) = ask id text b
event_effect b (Attach device) = attach device b
event_effect b (Allocate device unit) = allocate device unit b
event_effect b (Free device) = free device b
event_effect b Resume = done (resumed b)
