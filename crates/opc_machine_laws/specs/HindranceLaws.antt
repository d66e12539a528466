-- What is in the way of commands and events on the board, for those who are refused.
use Rattle.std.specs.Prelude.{◌≡◌, ◌⊎◌, Bool, true, false, not, ◌||◌, List, [], ◌∷◌, Option, Some, None, Ok, Err}
use Rattle.std.specs.Option.{is_none, is_some}
use Rattle.opc_reader_commands.specs.declared.command.Command.{Command}
use Rattle.opc_reader_commands.specs.declared.command.Command.TheVariants as command
use Rattle.opc_board.specs.declared.board.BoardRows.{BoardRows}
use Rattle.opc_board.specs.declared.event.Event.{Event}
use Rattle.opc_board.specs.declared.event.Event.TheVariants as event
use Rattle.opc_board.specs.declared.fault.BoardFault.{BoardFault}
use Rattle.opc_board.specs.declared.fault.BoardFault.TheVariants.{
  Cancelable,
  DeviceInUse,
  DeviceState,
  Halted,
  LastMaster,
  NoDevice,
  NoReply,
  NoTarget,
  NoUnit,
  NoVolume,
  NonCancelable,
  ReplyExists,
  UnitExists,
  WrongKind,
}
use Rattle.opc_board.specs.declared.rows.DeviceRow.{DeviceRow}
use Rattle.opc_board.specs.declared.rows.UnitRow.{UnitRow}
use Rattle.opc_board.specs.Effect.{effect, event_effect}
use Rattle.opc_board.specs.Invariants.{Name, console_at, device_at, has_master, reply_at, unit_at}
use Rattle.opc_board.specs.Outcome.{Done, BoardOutcome}
use Rattle.opc_board.specs.Replies.{has_session, is_on, is_session}
use Rattle.opc_machine_laws.specs.EffectLaws.{HasDone}
use Rattle.opc_machine_laws.specs.ObstacleLaws.{first_obstacle}

-- whether a unit is there that C may end, and what holds of a device that is there
abbrev pub is_cancelable : Option UnitRow → Bool
is_cancelable None = false
is_cancelable (Some unit) = unit.cancelable

abbrev pub is_online : Option DeviceRow → Bool
is_online None = false
is_online (Some device) = device.online

abbrev pub has_volume : Option DeviceRow → Bool
has_volume None = false
has_volume (Some device) = is_some device.volume

abbrev pub is_used : Option DeviceRow → Bool
is_used None = false
is_used (Some device) = is_some device.unit

-- What may be in the way of a command, in the order of its report. The loss of the last online console with AUTH MASTER
-- is reported after all of these.
abbrev pub board_obstacles : BoardRows → Command → List (Bool × BoardFault)
board_obstacles b (command.Cancel name) =
    (is_none (unit_at b name.value), NoUnit)
    ∷ (is_session (unit_at b name.value), WrongKind) ∷ (not (is_cancelable (unit_at b name.value)), NonCancelable) ∷ []
board_obstacles b (command.CancelUser user) =
    (is_none (unit_at b user.value), NoUnit) ∷ (not (is_session (unit_at b user.value)), WrongKind)
    ∷ (not (is_cancelable (unit_at b user.value)), NonCancelable) ∷ []
board_obstacles b (command.Force name) =
    (is_none (unit_at b name.value), NoUnit) ∷ (is_cancelable (unit_at b name.value), Cancelable) ∷ []
board_obstacles b (command.Start member) = (b.halted, Halted) ∷ (is_some (unit_at b member.value), UnitExists) ∷ []
board_obstacles b (command.StartAs member id) = (b.halted, Halted) ∷ (is_some (unit_at b id.value), UnitExists) ∷ []
board_obstacles b (command.Stop name) = (is_none (unit_at b name.value), NoUnit)
    ∷ (is_session (unit_at b name.value), WrongKind) ∷ []
board_obstacles b (command.Modify name text) =
    (is_none (unit_at b name.value), NoUnit) ∷ (is_session (unit_at b name.value), WrongKind) ∷ []
board_obstacles b (command.Reply id text) = (is_none (reply_at b id.value), NoReply) ∷ []
board_obstacles b (command.VaryDeviceOnline device) =
    (is_none (device_at b device.value), NoDevice) ∷ (is_online (device_at b device.value), DeviceState) ∷ []
board_obstacles b (command.VaryDeviceOffline device) =
    (is_none (device_at b device.value), NoDevice) ∷ (not (is_online (device_at b device.value)), DeviceState)
    ∷ (is_used (device_at b device.value), DeviceInUse) ∷ []
board_obstacles b (command.VaryConsoleOnline name) = (is_none (console_at b name.value), NoTarget) ∷ []
board_obstacles b (command.VaryConsoleOffline name) = (is_none (console_at b name.value), NoTarget) ∷ []
board_obstacles b (command.VaryConsoleAuth name auth) = (is_none (console_at b name.value), NoTarget) ∷ []
board_obstacles b (command.Mount device volume) =
    (is_none (device_at b device.value), NoDevice) ∷ (not (is_online (device_at b device.value)), DeviceState)
    ∷ (has_volume (device_at b device.value), DeviceState) ∷ []
board_obstacles b (command.Unload device) =
    (is_none (device_at b device.value), NoDevice)
    ∷ (not (has_volume (device_at b device.value)), NoVolume) ∷ (is_used (device_at b device.value), DeviceInUse) ∷ []
board_obstacles b (command.Swap from to) =
    (is_none (device_at b from.value), NoDevice)
    ∷ (is_none (device_at b to.value), NoDevice)
    ∷ (not (is_online (device_at b from.value)), DeviceState)
    ∷ (not (is_online (device_at b to.value)), DeviceState)
    ∷ (not (has_volume (device_at b from.value)), NoVolume)
    ∷ (has_volume (device_at b to.value), DeviceState)
    ∷ (is_used (device_at b to.value), DeviceState) ∷ []
board_obstacles b (command.ResetConsole name) = (is_none (console_at b name.value), NoTarget) ∷ []
board_obstacles b (command.Send text user) = (not (is_on user.value b || has_session user.value b), NoTarget) ∷ []
board_obstacles b command.Halt = (b.halted, Halted) ∷ []
board_obstacles b other = []

-- The first of these is the fault of the command.
abbrev pub BoardObstaclesAreFaults : Type 0
BoardObstaclesAreFaults = (b : BoardRows) (at : Name) (k : Command) (fault : BoardFault)
    → first_obstacle (board_obstacles b k) ≡ Some fault → effect b k at ≡ Err fault

-- What the command does would lose the last online console with AUTH MASTER.
pub record LosesMaster (b : BoardRows) (at : Name) (k : Command) (outcome : BoardOutcome) : Type 0 where
  pub new : BoardRows
  pub done : HasDone at k b new
  pub lost : (has_master b.consoles ≡ true → has_master new.consoles ≡ true) → ⊥
  pub refused : outcome ≡ Err LastMaster

-- Without any of these it acts, unless that master would be lost.
abbrev pub IsDoneOrLosesMaster : BoardRows → Name → Command → BoardOutcome → Type 0
IsDoneOrLosesMaster b at k outcome = ((act : Done) × (outcome ≡ Ok act)) ⊎ LosesMaster b at k outcome

abbrev pub CommandsActWithoutObstacle : Type 0
CommandsActWithoutObstacle = (b : BoardRows) (at : Name) (k : Command) → first_obstacle (board_obstacles b k) ≡ None
    → IsDoneOrLosesMaster b at k (effect b k at)

-- The same holds of events.
abbrev pub event_obstacles : BoardRows → Event → List (Bool × BoardFault)
event_obstacles b (event.JobIn name kind cancelable) = (b.halted, Halted) ∷ (is_some (unit_at b name), UnitExists) ∷ []
event_obstacles b (event.JobEnd name) = (is_none (unit_at b name), NoUnit) ∷ []
event_obstacles b (event.Ask id text) = (is_some (reply_at b id), ReplyExists) ∷ []
event_obstacles b (event.Attach device) = (is_some (device_at b device), DeviceState) ∷ []
event_obstacles b (event.Allocate device unit) =
    (is_none (device_at b device), NoDevice) ∷ (is_none (unit_at b unit), NoUnit)
    ∷ (not (is_online (device_at b device)), DeviceState) ∷ (is_used (device_at b device), DeviceInUse) ∷ []
event_obstacles b (event.Free device) = (is_none (device_at b device), NoDevice)
    ∷ (not (is_used (device_at b device)), DeviceState) ∷ []
event_obstacles b event.Resume = []

abbrev pub EventObstaclesAreFaults : Type 0
EventObstaclesAreFaults = (b : BoardRows) (e : Event) (fault : BoardFault)
    → first_obstacle (event_obstacles b e) ≡ Some fault → event_effect b e ≡ Err fault

abbrev pub EventsHappenWithoutObstacle : Type 0
EventsHappenWithoutObstacle = (b : BoardRows) (e : Event) → first_obstacle (event_obstacles b e) ≡ None → (act : Done)
    × (event_effect b e ≡ Ok act)
