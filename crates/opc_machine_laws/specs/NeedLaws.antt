-- What commands need, for those who type them.
use Rattle.std.specs.Prelude.{◌≡◌, ℕ, Bool, true, false, List, ◌∷◌, ◌++◌, Option, Some, None, codes}
use Rattle.opc_names.specs.declared.auth.Auth.{Auth}
use Rattle.opc_names.specs.declared.auth.Auth.TheVariants as auth
use Rattle.opc_names.specs.declared.group.Group.{Group}
use Rattle.opc_names.specs.declared.group.Group.TheVariants.{Cons, Info, Io, Master, Sys}
use Rattle.opc_names.specs.declared.level.Level.{Level}
use Rattle.opc_names.specs.declared.level.Level.TheVariants.{Control, Read, Update}
use Rattle.opc_names.specs.Authority.{enters}
use Rattle.opc_terms.specs.declared.need.Need.{Need}
use Rattle.opc_terms.specs.declared.unit_kind.UnitKindAt.{UnitKindAt}
use Rattle.opc_reader_commands.specs.declared.command.Command.{Command}
use Rattle.opc_reader_commands.specs.declared.command.Command.TheVariants as command
use Rattle.opc_table.specs.Table.{need}
use Rattle.opc_board.specs.declared.board.BoardRows.{BoardRows}
use Rattle.opc_board.specs.declared.rows.UnitKind.{UnitKind}
use Rattle.opc_board.specs.declared.rows.UnitKind.TheVariants.{Job, Stc, Tsu}
use Rattle.opc_board.specs.declared.rows.UnitRow.{UnitRow}
use Rattle.opc_board.specs.Invariants.{Name, kind_at, unit_at}
use Rattle.opc_machine.specs.Commands.{need_of}

-- A command needs what the table defines: C, FORCE, P and F by the kind of the unit on the board, the others whatever
-- is there.
abbrev pub IsNeeded : BoardRows → Command → Option Need → Type 0
IsNeeded b (command.Cancel name) needed = needed ≡ need (command.Cancel name) (kind_at b name.value)
IsNeeded b (command.Force name) needed = needed ≡ need (command.Force name) (kind_at b name.value)
IsNeeded b (command.Stop name) needed = needed ≡ need (command.Stop name) (kind_at b name.value)
IsNeeded b (command.Modify name text) needed = needed ≡ need (command.Modify name text) (kind_at b name.value)
IsNeeded b other needed = (kind : UnitKindAt) → needed ≡ need other kind

abbrev pub NeedsAreOfTheTable : Type 0
NeedsAreOfTheTable = (b : BoardRows) (k : Command) → IsNeeded b k (need_of b k)

-- whether an authority enters MASTER, INFO, SYS, IO and CONS, in this order
abbrev pub entries_of : Auth → Bool × Bool × Bool × Bool × Bool
entries_of auth.Master = (true, true, true, true, true)
entries_of auth.All = (false, true, true, true, true)
entries_of auth.Info = (false, true, false, false, false)
entries_of auth.Sys = (false, true, true, false, false)
entries_of auth.Io = (false, true, false, true, false)
entries_of auth.Cons = (false, true, false, false, true)
entries_of auth.SysIo = (false, true, true, true, false)
entries_of auth.SysCons = (false, true, true, false, true)
entries_of auth.IoCons = (false, true, false, true, true)
entries_of auth.SysIoCons = (false, true, true, true, true)

-- A console enters the command groups of its authority's row in that table, and no other.
abbrev pub AuthoritiesEnterTheirGroups : Type 0
AuthoritiesEnterTheirGroups = (a : Auth)
    → (enters a Master, enters a Info, enters a Sys, enters a Io, enters a Cons) ≡ entries_of a

abbrev pub by : Group → Level → List ℕ → Option Need
by group level resource = Some (record { resource = resource; level = level; group = group })

-- How a resource names a unit: a started task by its member and its name, a session by a word of its own under FORCE
-- alone, and everything else as a job, even what is not on the board; 46 is the period.
abbrev pub of_kind : List ℕ → UnitKind → Name → List ℕ
of_kind session Job name = codes "JOB." ++ name
of_kind session (Stc member) name = codes "STC." ++ member ++ 46 ∷ name
of_kind session Tsu name = session ++ codes "." ++ name

abbrev pub of_unit : List ℕ → Option UnitRow → Name → List ℕ
of_unit session None name = codes "JOB." ++ name
of_unit session (Some unit) name = of_kind session unit.kind name

-- What each command needs on a board: a group, a level and a resource.
abbrev pub need_on : BoardRows → Command → Option Need
need_on b command.DisplayUnits = by Info Read (codes "MVS.DISPLAY.JOB")
need_on b (command.DisplayUnit name) = by Info Read (codes "MVS.DISPLAY.JOB")
need_on b command.DisplayDevices = by Info Read (codes "MVS.DISPLAY.U")
need_on b command.DisplayConsoles = by Info Read (codes "MVS.DISPLAY.CN")
need_on b command.DisplayReplies = by Info Read (codes "MVS.DISPLAY.R")
need_on b (command.Cancel name) = by Sys Update
    (codes "MVS.CANCEL." ++ of_unit (codes "JOB") (unit_at b name.value) name.value)
need_on b (command.CancelUser user) = by Sys Update (codes "MVS.CANCEL.TSU." ++ user.value)
need_on b (command.Force name) = by Master Control
    (codes "MVS.FORCE." ++ of_unit (codes "TSU") (unit_at b name.value) name.value)
need_on b (command.Start member) = by Sys Update (codes "MVS.START.STC." ++ member.value ++ 46 ∷ member.value)
need_on b (command.StartAs member id) = by Sys Update (codes "MVS.START.STC." ++ member.value ++ 46 ∷ id.value)
need_on b (command.Stop name) = by Sys Update
    (codes "MVS.STOP." ++ of_unit (codes "JOB") (unit_at b name.value) name.value)
need_on b (command.Modify name text) = by Sys Update
    (codes "MVS.MODIFY." ++ of_unit (codes "JOB") (unit_at b name.value) name.value)
need_on b (command.Reply id text) = by Info Read (codes "MVS.REPLY")
need_on b (command.VaryDeviceOnline device) = by Io Update (codes "MVS.VARY.DEV")
need_on b (command.VaryDeviceOffline device) = by Io Update (codes "MVS.VARY.DEV")
need_on b (command.VaryConsoleOnline name) = by Cons Update (codes "MVS.VARY.CN")
need_on b (command.VaryConsoleOffline name) = by Cons Update (codes "MVS.VARY.CN")
need_on b (command.VaryConsoleAuth name auth) = by Master Control (codes "MVS.VARYAUTH.CN")
need_on b (command.Mount device volume) = by Io Update (codes "MVS.MOUNT")
need_on b (command.Unload device) = by Io Update (codes "MVS.UNLOAD")
need_on b (command.Swap from to) = by Io Update (codes "MVS.SWAP")
need_on b (command.ResetConsole name) = by Master Control (codes "MVS.RESET.CN")
need_on b (command.Send text user) = by Info Read (codes "MVS.SEND")
need_on b (command.Log text) = by Info Read (codes "MVS.LOG")
need_on b command.Monitor = by Info Read (codes "MVS.MONITOR")
need_on b command.StopMonitor = by Info Read (codes "MVS.STOPMN")
need_on b command.Halt = by Sys Update (codes "MVS.HALT.EOD")
need_on b (command.Logon id password) = None
need_on b command.Logoff = None

abbrev pub CommandsNeedSo : Type 0
CommandsNeedSo = (b : BoardRows) (k : Command) → need_of b k ≡ need_on b k
