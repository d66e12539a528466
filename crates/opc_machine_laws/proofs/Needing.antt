-- What each command needs, by the unit that is there.
use Rattle.std.proofs.Common.{◌≡◌, ◌++◌, Option, Some, None, codes, refl, ap}
use Rattle.opc_names.specs.declared.group.Group.TheVariants.{Master, Sys}
use Rattle.opc_names.specs.declared.level.Level.TheVariants.{Control, Update}
use Rattle.opc_reader_commands.specs.declared.command.Command.TheVariants as command
use Rattle.opc_table.specs.Table.{forced, of_unit as of_kind_at}
use Rattle.opc_board.specs.declared.rows.UnitKind.{UnitKind}
use Rattle.opc_board.specs.declared.rows.UnitKind.TheVariants.{Job, Stc, Tsu}
use Rattle.opc_board.specs.declared.rows.UnitRow.{UnitRow}
use Rattle.opc_board.specs.Invariants.{Name, kind_found, unit_at, unit_kind}
use Rattle.opc_machine_laws.specs.NeedLaws.{CommandsNeedSo, by, of_kind, of_unit}

cancels_kind : (kind : UnitKind) (name : Name)
    → of_kind_at (codes "MVS.CANCEL.JOB") (codes "MVS.CANCEL.STC") (kind_found kind) name ≡ codes "MVS.CANCEL."
    ++ of_kind (codes "JOB") kind name
cancels_kind Job name = refl
cancels_kind (Stc member) name = refl
cancels_kind Tsu name = refl

cancels : (unit : Option UnitRow) (name : Name)
    → of_kind_at (codes "MVS.CANCEL.JOB") (codes "MVS.CANCEL.STC") (unit_kind unit) name ≡ codes "MVS.CANCEL."
    ++ of_unit (codes "JOB") unit name
cancels None name = refl
cancels (Some unit) name = cancels_kind unit.kind name

stops_kind : (kind : UnitKind) (name : Name)
    → of_kind_at (codes "MVS.STOP.JOB") (codes "MVS.STOP.STC") (kind_found kind) name ≡ codes "MVS.STOP."
    ++ of_kind (codes "JOB") kind name
stops_kind Job name = refl
stops_kind (Stc member) name = refl
stops_kind Tsu name = refl

stops : (unit : Option UnitRow) (name : Name)
    → of_kind_at (codes "MVS.STOP.JOB") (codes "MVS.STOP.STC") (unit_kind unit) name ≡ codes "MVS.STOP."
    ++ of_unit (codes "JOB") unit name
stops None name = refl
stops (Some unit) name = stops_kind unit.kind name

modifies_kind : (kind : UnitKind) (name : Name)
    → of_kind_at (codes "MVS.MODIFY.JOB") (codes "MVS.MODIFY.STC") (kind_found kind) name ≡ codes "MVS.MODIFY."
    ++ of_kind (codes "JOB") kind name
modifies_kind Job name = refl
modifies_kind (Stc member) name = refl
modifies_kind Tsu name = refl

modifies : (unit : Option UnitRow) (name : Name)
    → of_kind_at (codes "MVS.MODIFY.JOB") (codes "MVS.MODIFY.STC") (unit_kind unit) name ≡ codes "MVS.MODIFY."
    ++ of_unit (codes "JOB") unit name
modifies None name = refl
modifies (Some unit) name = modifies_kind unit.kind name

forces_kind : (kind : UnitKind) (name : Name) → forced (kind_found kind) name ≡ codes "MVS.FORCE." ++ of_kind (codes "TSU") kind name
forces_kind Job name = refl
forces_kind (Stc member) name = refl
forces_kind Tsu name = refl

forces : (unit : Option UnitRow) (name : Name) → forced (unit_kind unit) name ≡ codes "MVS.FORCE." ++ of_unit (codes "TSU") unit name
forces None name = refl
forces (Some unit) name = forces_kind unit.kind name

pub commands_need : CommandsNeedSo
commands_need b command.DisplayUnits = refl
commands_need b (command.DisplayUnit name) = refl
commands_need b command.DisplayDevices = refl
commands_need b command.DisplayConsoles = refl
commands_need b command.DisplayReplies = refl
commands_need b (command.Cancel name) = ap (by Sys Update) (cancels (unit_at b name.value) name.value)
commands_need b (command.CancelUser user) = refl
commands_need b (command.Force name) = ap (by Master Control) (forces (unit_at b name.value) name.value)
commands_need b (command.Start member) = refl
commands_need b (command.StartAs member id) = refl
commands_need b (command.Stop name) = ap (by Sys Update) (stops (unit_at b name.value) name.value)
commands_need b (command.Modify name text) = ap (by Sys Update) (modifies (unit_at b name.value) name.value)
commands_need b (command.Reply id text) = refl
commands_need b (command.VaryDeviceOnline device) = refl
commands_need b (command.VaryDeviceOffline device) = refl
commands_need b (command.VaryConsoleOnline name) = refl
commands_need b (command.VaryConsoleOffline name) = refl
commands_need b (command.VaryConsoleAuth name auth) = refl
commands_need b (command.Mount device volume) = refl
commands_need b (command.Unload device) = refl
commands_need b (command.Swap from to) = refl
commands_need b (command.ResetConsole name) = refl
commands_need b (command.Send text user) = refl
commands_need b (command.Log text) = refl
commands_need b command.Monitor = refl
commands_need b command.StopMonitor = refl
commands_need b command.Halt = refl
commands_need b (command.Logon id password) = refl
commands_need b command.Logoff = refl
