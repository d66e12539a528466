-- The table of commands: the group, the level and the resource that each one needs.
use Rattle.std.specs.Prelude.{ℕ, List, ◌∷◌, ◌++◌, Option, Some, None, codes}
use Rattle.opc_names.specs.declared.group.Group.{Group}
use Rattle.opc_names.specs.declared.group.Group.TheVariants.{Master, Info, Sys, Io, Cons}
use Rattle.opc_names.specs.declared.level.Level.{Level}
use Rattle.opc_names.specs.declared.level.Level.TheVariants.{Read, Update, Control}
use Rattle.opc_terms.specs.declared.need.Need.{Need}
use Rattle.opc_terms.specs.declared.unit_kind.UnitKindAt.{UnitKindAt}
use Rattle.opc_terms.specs.declared.unit_kind.UnitKindAt.TheVariants.{Absent, Job, Stc, Tsu}
use Rattle.opc_reader_commands.specs.declared.command.Command.{Command}
use Rattle.opc_reader_commands.specs.declared.command.Command.TheVariants.{
  DisplayUnits,
  DisplayUnit,
  DisplayDevices,
  DisplayConsoles,
  DisplayReplies,
  Cancel,
  CancelUser,
  Force,
  Start,
  StartAs,
  Stop,
  Modify,
  Reply,
  VaryDeviceOnline,
  VaryDeviceOffline,
  VaryConsoleOnline,
  VaryConsoleOffline,
  VaryConsoleAuth,
  Mount,
  Unload,
  Swap,
  ResetConsole,
  Send,
  Log,
  Monitor,
  StopMonitor,
  Halt,
  Logon,
  Logoff,
}

abbrev pub needs : Group → Level → List ℕ → Option Need
needs group level resource = Some (record { resource = resource; level = level; group = group })

-- a resource with a name as one more qualifier: 46 is the period
abbrev pub qualified : List ℕ → List ℕ → List ℕ
qualified words name = words ++ 46 ∷ name

-- a started task is named by its member and its name
abbrev pub started : List ℕ → List ℕ → List ℕ → List ℕ
started words member id = qualified (qualified words member) id

-- A unit is named as a started task or as a job. A name that is not on the board, and a user's session, are named as a
-- job.
abbrev pub of_unit : List ℕ → List ℕ → UnitKindAt → List ℕ → List ℕ
of_unit job task Absent name = qualified job name
of_unit job task Job name = qualified job name
of_unit job task (Stc member) name = started task member name
of_unit job task Tsu name = qualified job name

-- FORCE alone has a form for a user's session.
abbrev pub forced : UnitKindAt → List ℕ → List ℕ
forced Absent name = qualified (codes "MVS.FORCE.JOB") name
forced Job name = qualified (codes "MVS.FORCE.JOB") name
forced (Stc member) name = started (codes "MVS.FORCE.STC") member name
forced Tsu name = qualified (codes "MVS.FORCE.TSU") name

abbrev pub need : Command → UnitKindAt → Option Need
need DisplayUnits kind = needs Info Read (codes "MVS.DISPLAY.JOB")
need (DisplayUnit name) kind = needs Info Read (codes "MVS.DISPLAY.JOB")
need DisplayDevices kind = needs Info Read (codes "MVS.DISPLAY.U")
need DisplayConsoles kind = needs Info Read (codes "MVS.DISPLAY.CN")
need DisplayReplies kind = needs Info Read (codes "MVS.DISPLAY.R")
need (Cancel name) kind = needs Sys Update (of_unit (codes "MVS.CANCEL.JOB") (codes "MVS.CANCEL.STC") kind name.value)
need (CancelUser user) kind = needs Sys Update (qualified (codes "MVS.CANCEL.TSU") user.value)
need (Force name) kind = needs Master Control (forced kind name.value)
need (Start member) kind = needs Sys Update (started (codes "MVS.START.STC") member.value member.value)
need (StartAs member id) kind = needs Sys Update (started (codes "MVS.START.STC") member.value id.value)
need (Stop name) kind = needs Sys Update (of_unit (codes "MVS.STOP.JOB") (codes "MVS.STOP.STC") kind name.value)
need (Modify name text) kind = needs Sys Update
    (of_unit (codes "MVS.MODIFY.JOB") (codes "MVS.MODIFY.STC") kind name.value)
need (Reply id text) kind = needs Info Read (codes "MVS.REPLY")
need (VaryDeviceOnline device) kind = needs Io Update (codes "MVS.VARY.DEV")
need (VaryDeviceOffline device) kind = needs Io Update (codes "MVS.VARY.DEV")
need (Mount device volume) kind = needs Io Update (codes "MVS.MOUNT")
need (Unload device) kind = needs Io Update (codes "MVS.UNLOAD")
need (Swap from to) kind = needs Io Update (codes "MVS.SWAP")
need (VaryConsoleOnline console) kind = needs Cons Update (codes "MVS.VARY.CN")
need (VaryConsoleOffline console) kind = needs Cons Update (codes "MVS.VARY.CN")
need (VaryConsoleAuth console auth) kind = needs Master Control (codes "MVS.VARYAUTH.CN")
need (ResetConsole console) kind = needs Master Control (codes "MVS.RESET.CN")
need (Send text user) kind = needs Info Read (codes "MVS.SEND")
need (Log text) kind = needs Info Read (codes "MVS.LOG")
need Monitor kind = needs Info Read (codes "MVS.MONITOR")
need StopMonitor kind = needs Info Read (codes "MVS.STOPMN")
need Halt kind = needs Sys Update (codes "MVS.HALT.EOD")
need (Logon user password) kind = None
need Logoff kind = None
