-- What is in the way of commands and events on the board.
use Rattle.std.proofs.Common.{◌≡◌, inl, inr, Bool, true, false, not, ◌++◌, if◌then◌else◌, List, [], ◌∷◌, Option, Some, None, Ok, Err, refl, ap, rules}
use Rattle.std.specs.Option.{is_none, is_some}
use Rattle.opc_reader_commands.specs.declared.command.Command.{Command}
use Rattle.opc_reader_commands.specs.declared.command.Command.TheVariants as command
use Rattle.opc_reader_commands.specs.Quotes.{text_value}
use Rattle.opc_rows.specs.Ordered.{put}
use Rattle.opc_board.specs.declared.board.BoardRows.{BoardRows}
use Rattle.opc_board.specs.declared.event.Event.{Event}
use Rattle.opc_board.specs.declared.event.Event.TheVariants as event
use Rattle.opc_board.specs.declared.fault.BoardFault.{BoardFault}
use Rattle.opc_board.specs.declared.fault.BoardFault.TheVariants.{
  Cancelable,
  DeviceInUse,
  DeviceState,
  LastMaster,
  NoDevice,
  NoReply,
  NoTarget,
  NoUnit,
  NoVolume,
  NonCancelable,
  WrongKind,
}
use Rattle.opc_board.specs.declared.rows.ConsoleRow.{ConsoleRow}
use Rattle.opc_board.specs.declared.rows.DeviceRow.{DeviceRow}
use Rattle.opc_board.specs.declared.rows.UnitKind.TheVariants.{Stc}
use Rattle.opc_board.specs.declared.rows.UnitRow.{UnitRow}
use Rattle.opc_board.specs.Consoles.{put_offline, replaced, varied, vary_faults, with_console}
use Rattle.opc_board.specs.Consoles as consoles
use Rattle.opc_board.specs.Devices.{
  allocate_faults,
  attach_faults,
  emptied,
  free_faults,
  loaded,
  mount_faults,
  new_device,
  offline_faults,
  online_faults,
  swap_faults,
  unload_faults,
  with_device,
}
use Rattle.opc_board.specs.Effect.{effect, event_effect}
use Rattle.opc_board.specs.Invariants.{Name, console_at, device_at, device_before, has_master, reply_at, reply_before, unit_at, unit_before}
use Rattle.opc_board.specs.Outcome.{Done, BoardOutcome, ◌>>=◌, done, done_with, faults_or, found}
use Rattle.opc_board.specs.Replies.{answered, ask_faults, halt_faults, is_session, send_faults, without_reply}
use Rattle.opc_board.specs.Texts.{reply_line}
use Rattle.opc_board.specs.Units.{at_unit, cancel_faults, cancel_user_faults, come_faults, force_faults, kind_faults, new_unit, without_unit}
use Rattle.opc_machine_laws.specs.EffectLaws.{HasDone}
use Rattle.opc_machine_laws.specs.HindranceLaws.{
  BoardObstaclesAreFaults,
  CommandsActWithoutObstacle,
  EventObstaclesAreFaults,
  EventsHappenWithoutObstacle,
  IsDoneOrLosesMaster,
  board_obstacles,
  event_obstacles,
  has_volume,
  is_cancelable,
  is_online,
  is_used,
}
use Rattle.opc_machine_laws.specs.ObstacleLaws.{first_obstacle}
use Rattle.opc_machine_laws.proofs.AtNames.{console_becomes, goes_offline, offline_name}
use Rattle.opc_machine_laws.proofs.Hindering.{lost_master}

-- these are all that is in the way of an outcome, which otherwise ends like this
pub record Blocks (E : BoardOutcome → Type 0) (all : List (Bool × BoardFault)) (o : BoardOutcome) : Type 0 where
  pub refused : (f : BoardFault) → first_obstacle all ≡ Some f → o ≡ Err f
  pub ends : first_obstacle all ≡ None → E o

module _ (E : BoardOutcome → Type 0) where
  free : (o : BoardOutcome) → E o → Blocks E [] o
  free o ends = record { refused = λ f h. absurd (search (rules, h)); ends = λ h. ends }

  listed : (faults : List (Bool × BoardFault)) (o : BoardOutcome) → E o → Blocks E faults (faults_or faults o)
  listed [] o ends = free o ends
  listed (fault ∷ faults) o ends = go fault.0 (listed faults o ends)
    where
      go : (there : Bool) → Blocks E faults (faults_or faults o) → Blocks E ((there, fault.1) ∷ faults) (if there then Err fault.1 else faults_or faults o)
      go true later = record { refused = λ f h. ap Err (search (rules, h)); ends = λ h. absurd (search (rules, h)) }
      go false later = record { refused = later.refused; ends = later.ends }

  looked_up : {A : Type 0} (f : BoardFault) (rest : Option A → List (Bool × BoardFault)) (o : Option A)
      (next : A → BoardOutcome) → ((x : A) → o ≡ Some x → Blocks E (rest (Some x)) (next x))
      → Blocks E ((is_none o, f) ∷ rest o) (found f o >>= next)
  looked_up {A = A} f rest o next h = go o h
    where
      go : (p : Option A) → ((x : A) → p ≡ Some x → Blocks E (rest (Some x)) (next x)) → Blocks E ((is_none p, f) ∷ rest p) (found f p >>= next)
      go None h = record { refused = λ g k. ap Err (search (rules, k)); ends = λ k. absurd (search (rules, k)) }
      go (Some x) h = record { refused = (h x refl).refused; ends = (h x refl).ends }

-- what may be in the way of a swap, if both devices are there
abbrev both : Option DeviceRow → Option DeviceRow → List (Bool × BoardFault)
both one other = (not (is_online one), DeviceState) ∷ (not (is_online other), DeviceState)
    ∷ (not (has_volume one), NoVolume) ∷ (has_volume other, DeviceState) ∷ (is_used other, DeviceState) ∷ []

module _ (b : BoardRows) (at : Name) where
  abbrev Ends : Command → BoardOutcome → Type 0
  Ends k = IsDoneOrLosesMaster b at k

  does : (k : Command) (new : BoardRows) → Ends k (done new)
  does k new = inl (record { board = new; lines = [] }, refl)

  varies : (k : Command) (new : ConsoleRow) → HasDone at k b (with_console new b) → Blocks (Ends k) [] (varied new b)
  varies k new has = free (Ends k) (varied new b) (go (consoles.loses_master b.consoles (replaced new b.consoles)) refl)
    where
      go : (lost : Bool) → consoles.loses_master b.consoles (replaced new b.consoles) ≡ lost
          → Ends k (if lost then Err LastMaster else done (with_console new b))
      go true lost = inr (record {
        new = with_console new b;
        done = has;
        lost = lost_master (has_master b.consoles) (has_master (replaced new b.consoles)) lost;
        refused = refl;
      })
      go false kept = does k (with_console new b)

  blocked : (k : Command) → Blocks (Ends k) (board_obstacles b k) (effect b k at)
  blocked command.DisplayUnits = free (Ends command.DisplayUnits) _ (inl (_, refl))
  blocked (command.DisplayUnit name) = free (Ends (command.DisplayUnit name)) _ (inl (_, refl))
  blocked command.DisplayDevices = free (Ends command.DisplayDevices) _ (inl (_, refl))
  blocked command.DisplayConsoles = free (Ends command.DisplayConsoles) _ (inl (_, refl))
  blocked command.DisplayReplies = free (Ends command.DisplayReplies) _ (inl (_, refl))
  blocked (command.Cancel name) =
      looked_up (Ends (command.Cancel name)) NoUnit
      (λ o. (is_session o, WrongKind) ∷ (not (is_cancelable o), NonCancelable) ∷ []) (unit_at b name.value)
      (λ u. faults_or (cancel_faults u) (done (without_unit name.value b)))
      (λ u there. listed (Ends (command.Cancel name)) (cancel_faults u) (done (without_unit name.value b)) (does (command.Cancel name) _))
  blocked (command.CancelUser user) =
      looked_up (Ends (command.CancelUser user)) NoUnit
      (λ o. (not (is_session o), WrongKind) ∷ (not (is_cancelable o), NonCancelable) ∷ []) (unit_at b user.value)
      (λ u. faults_or (cancel_user_faults u) (done (without_unit user.value b)))
      (λ u there. listed (Ends (command.CancelUser user)) (cancel_user_faults u) (done (without_unit user.value b)) (does (command.CancelUser user) _))
  blocked (command.Force name) =
      looked_up (Ends (command.Force name)) NoUnit (λ o. (is_cancelable o, Cancelable) ∷ []) (unit_at b name.value)
      (λ u. faults_or (force_faults u) (done (without_unit name.value b)))
      (λ u there. listed (Ends (command.Force name)) (force_faults u) (done (without_unit name.value b)) (does (command.Force name) _))
  blocked (command.Start member) = listed (Ends (command.Start member)) (come_faults member.value b)
      (done (record b { units = put unit_before (new_unit member.value (Stc member.value) true) b.units }))
      (does (command.Start member) _)
  blocked (command.StartAs member id) = listed (Ends (command.StartAs member id)) (come_faults id.value b)
      (done (record b { units = put unit_before (new_unit id.value (Stc member.value) true) b.units }))
      (does (command.StartAs member id) _)
  blocked (command.Stop name) =
      looked_up (Ends (command.Stop name)) NoUnit (λ o. (is_session o, WrongKind) ∷ []) (unit_at b name.value)
      (λ u. faults_or (kind_faults u) (done (at_unit name.value (λ (v : UnitRow). record v { stopping = true }) b)))
      (λ u there. listed (Ends (command.Stop name)) (kind_faults u)
      (done (at_unit name.value (λ (v : UnitRow). record v { stopping = true }) b)) (does (command.Stop name) _))
  blocked (command.Modify name text) =
      looked_up (Ends (command.Modify name text)) NoUnit (λ o. (is_session o, WrongKind) ∷ []) (unit_at b name.value)
      (λ u. faults_or (kind_faults u)
      (done (at_unit name.value (λ (v : UnitRow). record v { last_text = Some (text_value text.typed.text) }) b)))
      (λ u there. listed (Ends (command.Modify name text)) (kind_faults u)
      (done (at_unit name.value (λ (v : UnitRow). record v { last_text = Some (text_value text.typed.text) }) b))
      (does (command.Modify name text) _))
  blocked (command.Reply id text) =
      looked_up (Ends (command.Reply id text)) NoReply (λ o. []) (reply_at b id.value)
      (λ r. done_with (answered id.value (text_value text.typed.text) (without_reply id.value b))
      (reply_line id.value (text_value text.typed.text) ∷ []))
      (λ r there. free (Ends (command.Reply id text)) _ (inl (_, refl)))
  blocked (command.VaryDeviceOnline device) =
      looked_up (Ends (command.VaryDeviceOnline device)) NoDevice (λ o. (is_online o, DeviceState) ∷ [])
      (device_at b device.value) (λ d. faults_or (online_faults d)
      (done (with_device (record d { online = true }) b)))
      (λ d there. listed (Ends (command.VaryDeviceOnline device)) (online_faults d)
      (done (with_device (record d { online = true }) b)) (does (command.VaryDeviceOnline device) _))
  blocked (command.VaryDeviceOffline device) =
      looked_up (Ends (command.VaryDeviceOffline device)) NoDevice
      (λ o. (not (is_online o), DeviceState) ∷ (is_used o, DeviceInUse) ∷ []) (device_at b device.value)
      (λ d. faults_or (offline_faults d) (done (with_device (record d { online = false }) b)))
      (λ d there. listed (Ends (command.VaryDeviceOffline device)) (offline_faults d)
      (done (with_device (record d { online = false }) b)) (does (command.VaryDeviceOffline device) _))
  blocked (command.VaryConsoleOnline name) =
      looked_up (Ends (command.VaryConsoleOnline name)) NoTarget (λ o. []) (console_at b name.value) (λ c. varied (record c { online = true }) b)
      (λ c there. varies (command.VaryConsoleOnline name) (record c { online = true })
      (console_becomes name.value (record c { online = true }) _ b c there refl refl))
  blocked (command.VaryConsoleOffline name) =
      looked_up (Ends (command.VaryConsoleOffline name)) NoTarget (λ o. []) (console_at b name.value) (λ c. varied (put_offline c) b)
      (λ c there. varies (command.VaryConsoleOffline name) (put_offline c)
      (console_becomes name.value (put_offline c) _ b c there (offline_name c) (goes_offline c)))
  blocked (command.VaryConsoleAuth name auth) =
      looked_up (Ends (command.VaryConsoleAuth name auth)) NoTarget (λ o. []) (console_at b name.value) (λ c. varied (record c { auth = auth.value }) b)
      (λ c there. varies (command.VaryConsoleAuth name auth) (record c { auth = auth.value })
      (console_becomes name.value (record c { auth = auth.value }) _ b c there refl refl))
  blocked (command.Mount device volume) =
      looked_up (Ends (command.Mount device volume)) NoDevice
      (λ o. (not (is_online o), DeviceState) ∷ (has_volume o, DeviceState) ∷ []) (device_at b device.value)
      (λ d. faults_or (mount_faults d) (done (with_device (record d { volume = Some volume.value }) b)))
      (λ d there. listed (Ends (command.Mount device volume)) (mount_faults d)
      (done (with_device (record d { volume = Some volume.value }) b)) (does (command.Mount device volume) _))
  blocked (command.Unload device) =
      looked_up (Ends (command.Unload device)) NoDevice
      (λ o. (not (has_volume o), NoVolume) ∷ (is_used o, DeviceInUse) ∷ []) (device_at b device.value)
      (λ d. faults_or (unload_faults d) (done (with_device (record d { volume = None }) b)))
      (λ d there. volumes (command.Unload device) d)
    where
      volumes : (k : Command) (d : DeviceRow)
          → Blocks (Ends k) ((not (is_some d.volume), NoVolume) ∷ (is_some d.unit, DeviceInUse) ∷ [])
          (faults_or (unload_faults d) (done (with_device (record d { volume = None }) b)))
      volumes k d = go d.volume
        where
          go : (o : Option Name) → Blocks (Ends k) ((not (is_some o), NoVolume) ∷ (is_some d.unit, DeviceInUse) ∷ [])
              (faults_or ((is_none o, NoVolume) ∷ (is_some d.unit, DeviceInUse) ∷ [])
              (done (with_device (record d { volume = None }) b)))
          go None = listed (Ends k) ((true, NoVolume) ∷ (is_some d.unit, DeviceInUse) ∷ [])
              (done (with_device (record d { volume = None }) b)) (does k (with_device (record d { volume = None }) b))
          go (Some v) = listed (Ends k) ((false, NoVolume) ∷ (is_some d.unit, DeviceInUse) ∷ [])
              (done (with_device (record d { volume = None }) b)) (does k (with_device (record d { volume = None }) b))
  blocked (command.Swap from to) =
      looked_up (Ends (command.Swap from to)) NoDevice
      (λ o. (is_none (device_at b to.value), NoDevice) ∷ both o (device_at b to.value)) (device_at b from.value)
      (λ source. found NoDevice (device_at b to.value) >>= λ target. faults_or (swap_faults source target)
      (done (with_device (loaded source target) (with_device (emptied source) b))))
      (λ source there. looked_up (Ends (command.Swap from to)) NoDevice (λ o. both (Some source) o)
      (device_at b to.value) (λ target. faults_or (swap_faults source target)
      (done (with_device (loaded source target) (with_device (emptied source) b))))
      (λ target at_to. swaps (command.Swap from to) source target))
    where
      swaps : (k : Command) (source target : DeviceRow)
          → Blocks (Ends k) (both (Some source) (Some target))
          (faults_or (swap_faults source target)
          (done (with_device (loaded source target) (with_device (emptied source) b))))
      swaps k source target = go source.volume
        where
          go : (o : Option Name) → Blocks (Ends k)
              ((not source.online, DeviceState) ∷ (not target.online, DeviceState) ∷ (not (is_some o), NoVolume)
              ∷ (is_some target.volume, DeviceState) ∷ (is_some target.unit, DeviceState) ∷ [])
              (faults_or ((not source.online, DeviceState) ∷ (not target.online, DeviceState) ∷ (is_none o, NoVolume)
              ∷ (is_some target.volume, DeviceState) ∷ (is_some target.unit, DeviceState) ∷ [])
              (done (with_device (loaded source target) (with_device (emptied source) b))))
          go None = listed (Ends k) ((not source.online, DeviceState) ∷ (not target.online, DeviceState)
              ∷ (true, NoVolume) ∷ (is_some target.volume, DeviceState) ∷ (is_some target.unit, DeviceState) ∷ [])
              (done (with_device (loaded source target) (with_device (emptied source) b)))
              (does k (with_device (loaded source target) (with_device (emptied source) b)))
          go (Some v) = listed (Ends k) ((not source.online, DeviceState) ∷ (not target.online, DeviceState)
              ∷ (false, NoVolume) ∷ (is_some target.volume, DeviceState) ∷ (is_some target.unit, DeviceState) ∷ [])
              (done (with_device (loaded source target) (with_device (emptied source) b)))
              (does k (with_device (loaded source target) (with_device (emptied source) b)))
  blocked (command.ResetConsole name) =
      looked_up (Ends (command.ResetConsole name)) NoTarget (λ o. []) (console_at b name.value)
      (λ c. done (with_console (record c { user = None }) b))
      (λ c there. free (Ends (command.ResetConsole name)) _ (does (command.ResetConsole name) _))
  blocked (command.Send text user) = listed (Ends (command.Send text user)) (send_faults user.value b) (done (record b {
    messages = b.messages ++ record {
      user = user.value;
      text = text_value text.typed.text;
    } ∷ [];
  })) (does (command.Send text user) _)
  blocked (command.Log text) = free (Ends (command.Log text)) _ (inl (_, refl))
  blocked command.Monitor = free (Ends command.Monitor) _ (inl (_, refl))
  blocked command.StopMonitor = free (Ends command.StopMonitor) _ (inl (_, refl))
  blocked command.Halt = listed (Ends command.Halt) (halt_faults b) (done (record b { halted = true })) (does command.Halt _)
  blocked (command.Logon user password) = free (Ends (command.Logon user password)) _ (inl (_, refl))
  blocked command.Logoff = free (Ends command.Logoff) _ (inl (_, refl))

pub board_obstacles_are_faults : BoardObstaclesAreFaults
board_obstacles_are_faults b at k fault first = (blocked b at k).refused fault first

pub act_without_obstacle : CommandsActWithoutObstacle
act_without_obstacle b at k none = (blocked b at k).ends none

-- events

abbrev Acts : BoardOutcome → Type 0
Acts o = (act : Done) × (o ≡ Ok act)

module _ (b : BoardRows) where
  event_blocked : (e : Event) → Blocks Acts (event_obstacles b e) (event_effect b e)
  event_blocked (event.JobIn name kind cancelable) =
      listed Acts (come_faults name b) (done
      (record b { units = put unit_before (new_unit name kind cancelable) b.units })) (_, refl)
  event_blocked (event.JobEnd name) = looked_up Acts NoUnit (λ o. []) (unit_at b name) (λ u. done (without_unit name b)) (λ u there. free Acts _ (_, refl))
  event_blocked (event.Ask id text) = listed Acts (ask_faults id b) (done (record b {
    replies = put reply_before (record {
      id = id;
      text = text;
    }) b.replies;
  })) (_, refl)
  event_blocked (event.Attach device) = listed Acts (attach_faults device b)
      (done (record b { devices = put device_before (new_device device) b.devices })) (_, refl)
  event_blocked (event.Allocate device unit) =
      looked_up Acts NoDevice (λ o. (is_none (unit_at b unit), NoUnit) ∷ (not (is_online o), DeviceState)
      ∷ (is_used o, DeviceInUse) ∷ []) (device_at b device) (λ d. found NoUnit (unit_at b unit) >>=
      λ u. faults_or (allocate_faults d) (done (with_device (record d { unit = Some unit }) b)))
      (λ d there. looked_up Acts NoUnit (λ o. (not d.online, DeviceState) ∷ (is_some d.unit, DeviceInUse) ∷ [])
      (unit_at b unit) (λ u. faults_or (allocate_faults d) (done (with_device (record d { unit = Some unit }) b)))
      (λ u at. listed Acts (allocate_faults d) (done (with_device (record d { unit = Some unit }) b)) (_, refl)))
  event_blocked (event.Free device) =
      looked_up Acts NoDevice (λ o. (not (is_used o), DeviceState) ∷ []) (device_at b device)
      (λ d. faults_or (free_faults d) (done (with_device (record d { unit = None }) b))) (λ d there. go d d.unit)
    where
      go : (d : DeviceRow) (o : Option Name)
          → Blocks Acts ((not (is_some o), DeviceState) ∷ [])
          (faults_or ((is_none o, DeviceState) ∷ []) (done (with_device (record d { unit = None }) b)))
      go d None = listed Acts ((true, DeviceState) ∷ []) (done (with_device (record d { unit = None }) b)) (_, refl)
      go d (Some u) = listed Acts ((false, DeviceState) ∷ []) (done (with_device (record d { unit = None }) b)) (_, refl)
  event_blocked event.Resume = free Acts _ (_, refl)

pub event_obstacles_are_faults : EventObstaclesAreFaults
event_obstacles_are_faults b e fault first = (event_blocked b e).refused fault first

pub happen_without_obstacle : EventsHappenWithoutObstacle
happen_without_obstacle b e none = (event_blocked b e).ends none
