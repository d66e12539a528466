-- What happens to devices.
use Rattle.std.specs.Prelude.{Bool, true, false, not, List, [], ◌∷◌, Some, None}
use Rattle.std.specs.Option.{is_some, is_none}
use Rattle.opc_rows.specs.Ordered.{put, changed}
use Rattle.opc_board.specs.declared.rows.DeviceRow.{DeviceRow}
use Rattle.opc_board.specs.declared.board.BoardRows.{BoardRows}
use Rattle.opc_board.specs.declared.fault.BoardFault.{BoardFault}
use Rattle.opc_board.specs.declared.fault.BoardFault.TheVariants.{NoUnit, NoDevice, DeviceState, DeviceInUse, NoVolume}
use Rattle.opc_board.specs.Invariants.{Name, is, device_before, unit_at, device_at}
use Rattle.opc_board.specs.Outcome.{BoardOutcome, done, faults_or, found, ◌>>=◌}

-- the board with this row in place of the one of its number
abbrev pub with_device : DeviceRow → BoardRows → BoardRows
with_device row b = record b { devices = changed (λ d. is d.number row.number) (λ d. row) b.devices }

-- V dev,ONLINE
abbrev pub online_faults : DeviceRow → List (Bool × BoardFault)
online_faults d = (d.online, DeviceState) ∷ []

abbrev pub vary_online : Name → BoardRows → BoardOutcome
vary_online number b = do
  device ← found NoDevice (device_at b number)
  faults_or (online_faults device) (done (with_device (record device { online = true }) b))

-- V dev,OFFLINE
abbrev pub offline_faults : DeviceRow → List (Bool × BoardFault)
offline_faults d = (not d.online, DeviceState) ∷ (is_some d.unit, DeviceInUse) ∷ []

abbrev pub vary_offline : Name → BoardRows → BoardOutcome
vary_offline number b = do
  device ← found NoDevice (device_at b number)
  faults_or (offline_faults device) (done (with_device (record device { online = false }) b))

-- M dev,VOL=volume: a volume is mounted on an online device that has none, whoever has the device
abbrev pub mount_faults : DeviceRow → List (Bool × BoardFault)
mount_faults d = (not d.online, DeviceState) ∷ (is_some d.volume, DeviceState) ∷ []

abbrev pub mount : Name → Name → BoardRows → BoardOutcome
mount number volume b = do
  device ← found NoDevice (device_at b number)
  faults_or (mount_faults device) (done (with_device (record device { volume = Some volume }) b))

-- U dev: the volume is removed from a device that nobody has, online or not
abbrev pub unload_faults : DeviceRow → List (Bool × BoardFault)
unload_faults d = (is_none d.volume, NoVolume) ∷ (is_some d.unit, DeviceInUse) ∷ []

abbrev pub unload : Name → BoardRows → BoardOutcome
unload number b = do
  device ← found NoDevice (device_at b number)
  faults_or (unload_faults device) (done (with_device (record device { volume = None }) b))

-- G from,to: volume and use move to an online device that has neither
abbrev pub swap_faults : DeviceRow → DeviceRow → List (Bool × BoardFault)
swap_faults source target =
    (not source.online, DeviceState)
    ∷ (not target.online, DeviceState)
    ∷ (is_none source.volume, NoVolume)
    ∷ (is_some target.volume, DeviceState)
    ∷ (is_some target.unit, DeviceState) ∷ []

abbrev pub emptied : DeviceRow → DeviceRow
emptied d = record d { volume = None; unit = None }

abbrev pub loaded : DeviceRow → DeviceRow → DeviceRow
loaded source d = record d { volume = source.volume; unit = source.unit }

abbrev pub swap : Name → Name → BoardRows → BoardOutcome
swap from to b = do
  source ← found NoDevice (device_at b from)
  target ← found NoDevice (device_at b to)
  faults_or (swap_faults source target) (done (with_device (loaded source target) (with_device (emptied source) b)))

-- a device is attached: it comes online, empty and free
abbrev pub new_device : Name → DeviceRow
new_device number = record { number = number; online = true; volume = None; unit = None }

abbrev pub attach_faults : Name → BoardRows → List (Bool × BoardFault)
attach_faults number b = (is_some (device_at b number), DeviceState) ∷ []

abbrev pub attach : Name → BoardRows → BoardOutcome
attach number b = faults_or (attach_faults number b)
    (done (record b { devices = put device_before (new_device number) b.devices }))

-- a unit takes an online device that nobody has
abbrev pub allocate_faults : DeviceRow → List (Bool × BoardFault)
allocate_faults d = (not d.online, DeviceState) ∷ (is_some d.unit, DeviceInUse) ∷ []

abbrev pub allocate : Name → Name → BoardRows → BoardOutcome
allocate number name b = do
  device ← found NoDevice (device_at b number)
  unit ← found NoUnit (unit_at b name)
  faults_or (allocate_faults device) (done (with_device (record device { unit = Some name }) b))

-- the unit that has a device gives it back
abbrev pub free_faults : DeviceRow → List (Bool × BoardFault)
free_faults d = (is_none d.unit, DeviceState) ∷ []

abbrev pub free : Name → BoardRows → BoardOutcome
free number b = do
  device ← found NoDevice (device_at b number)
  faults_or (free_faults device) (done (with_device (record device { unit = None }) b))
