-- A board that results from a command or an event meets the invariants, and its users are stored, if that held before.
use Rattle.std.proofs.Common.{◌≡◌, ℕ, Bool, true, false, not, if◌then◌else◌, List, [], ◌∷◌, ◌++◌, ◌==◌, Option, Some, None, Ok, Err, refl, ap}
use Rattle.std.specs.List.{AllByRecursion}
use Rattle.std.specs.Option.{is_some}
use Rattle.opc_names.specs.declared.auth.Auth.{Auth}
use Rattle.opc_terms.specs.declared.mode.Mode.{Mode}
use Rattle.opc_policy_members.specs.declared.policy.Policy.{Policy}
use Rattle.opc_reader_commands.specs.declared.command.Command.{Command}
use Rattle.opc_reader_commands.specs.declared.command.Command.TheVariants as command
use Rattle.opc_reader_commands.specs.Quotes.{text_value}
use Rattle.opc_rows.specs.Ordered.{put}
use Rattle.opc_rows.proofs.Orders.{all_changed, all_found, all_put}
use Rattle.opc_board.specs.declared.board.BoardRows.{BoardRows}
use Rattle.opc_board.specs.declared.event.Event.{Event}
use Rattle.opc_board.specs.declared.event.Event.TheVariants as event
use Rattle.opc_board.specs.declared.fault.BoardFault.{BoardFault}
use Rattle.opc_board.specs.declared.fault.BoardFault.TheVariants.{NoUnit, NoDevice, NoReply, NoTarget}
use Rattle.opc_board.specs.declared.rows.ConsoleRow.{ConsoleRow}
use Rattle.opc_board.specs.declared.rows.DeviceRow.{DeviceRow}
use Rattle.opc_board.specs.declared.rows.UnitKind.{UnitKind}
use Rattle.opc_board.specs.declared.rows.UnitKind.TheVariants.{Stc}
use Rattle.opc_board.specs.declared.rows.UnitRow.{UnitRow}
use Rattle.opc_board.specs.Consoles.{
  at_console,
  console_defined,
  defined,
  new_console,
  put_offline,
  reset_console,
  vary_console_auth,
  vary_console_offline,
  vary_console_online,
  varied,
  vary_faults,
  with_console,
}
use Rattle.opc_board.specs.Devices.{
  allocate,
  allocate_faults,
  attach,
  attach_faults,
  emptied,
  free,
  free_faults,
  loaded,
  mount,
  mount_faults,
  new_device,
  offline_faults,
  online_faults,
  swap,
  swap_faults,
  unload,
  unload_faults,
  vary_offline,
  vary_online,
  with_device,
}
use Rattle.opc_board.specs.Effect.{effect, event_effect}
use Rattle.opc_board.specs.Invariants.{
  Name,
  IsBoard,
  IsHeldRightly,
  console_at,
  console_before,
  device_at,
  device_before,
  is,
  reply_at,
  reply_before,
  unit_at,
  unit_before,
}
use Rattle.opc_board.specs.Outcome.{BoardOutcome, ◌>>=◌, done, done_with, faults_or, found}
use Rattle.opc_board.specs.Replies.{answered, ask, ask_faults, halt, halt_faults, reply, send, send_faults, without_reply}
use Rattle.opc_board.specs.Texts.{reply_line}
use Rattle.opc_board.specs.Units.{
  at_unit,
  cancel,
  cancel_faults,
  cancel_user,
  cancel_user_faults,
  come_faults,
  force,
  force_faults,
  job_end,
  job_in,
  kind_faults,
  modify,
  new_unit,
  stop,
  without_unit,
}
use Rattle.opc_board.proofs.Kept.{
  at_console_kept,
  at_unit_kept,
  device_held,
  fewer_replies_kept,
  held_by_none,
  held_online,
  holder_moves,
  new_console_kept,
  new_device_kept,
  new_reply_kept,
  new_unit_kept,
  with_console_kept,
  with_device_kept,
  without_unit_kept,
}
use Rattle.opc_state.specs.Invariants.{IsConsoleOfStored}
use Rattle.opc_machine.proofs.Inversion.{is_on}

-- a fault that does not apply
abbrev pub IsAbsent : Bool × BoardFault → Type 0
IsAbsent fault = fault.0 ≡ false

module _ (p : Policy) where
  abbrev pub IsKeptBoard : BoardRows → Type 0
  IsKeptBoard b = IsBoard b × AllByRecursion (IsConsoleOfStored p) b.consoles

  abbrev pub IfDone : BoardOutcome → Type 0
  IfDone (Ok d) = IsKeptBoard d.board
  IfDone (Err f) = Unit {0}

  found_then : {A : Type 0} (f : BoardFault) (o : Option A) (next : A → BoardOutcome) → ((x : A) → o ≡ Some x → IfDone (next x)) → IfDone (found f o >>= next)
  found_then f (Some x) next h = h x refl
  found_then f None next h = tt

  faults_then : (faults : List (Bool × BoardFault)) (o : BoardOutcome) → (AllByRecursion IsAbsent faults → IfDone o) → IfDone (faults_or faults o)
  faults_then [] o h = h tt
  faults_then (fault ∷ faults) o h = go fault.0 refl (λ absent. faults_then faults o (λ rest. h (absent, rest)))
    where
      go : (there : Bool) → fault.0 ≡ there → (fault.0 ≡ false → IfDone (faults_or faults o)) → IfDone (if there then Err fault.1 else faults_or faults o)
      go true so later = tt
      go false so later = later so

  -- units

  leaves : (name : Name) (b : BoardRows) → IsKeptBoard b → IsKeptBoard (without_unit name b)
  leaves name b invariants = (without_unit_kept name b invariants.0, invariants.1)

  cancel_kept : (name : Name) (b : BoardRows) → IsKeptBoard b → IfDone (cancel name b)
  cancel_kept name b invariants =
      found_then NoUnit (unit_at b name) (λ unit. faults_or (cancel_faults unit) (done (without_unit name b)))
      (λ unit at. faults_then (cancel_faults unit) (done (without_unit name b)) (λ absent. leaves name b invariants))

  cancel_user_kept : (name : Name) (b : BoardRows) → IsKeptBoard b → IfDone (cancel_user name b)
  cancel_user_kept name b invariants =
      found_then NoUnit (unit_at b name) (λ unit. faults_or (cancel_user_faults unit) (done (without_unit name b)))
      (λ unit at. faults_then (cancel_user_faults unit) (done (without_unit name b)) (λ absent. leaves name b invariants))

  force_kept : (name : Name) (b : BoardRows) → IsKeptBoard b → IfDone (force name b)
  force_kept name b invariants =
      found_then NoUnit (unit_at b name) (λ unit. faults_or (force_faults unit) (done (without_unit name b)))
      (λ unit at. faults_then (force_faults unit) (done (without_unit name b)) (λ absent. leaves name b invariants))

  job_end_kept : (name : Name) (b : BoardRows) → IsKeptBoard b → IfDone (job_end name b)
  job_end_kept name b invariants = found_then NoUnit (unit_at b name) (λ unit. done (without_unit name b)) (λ unit at. leaves name b invariants)

  job_in_kept : (name : Name) (kind : UnitKind) (cancelable : Bool) (b : BoardRows) → IsKeptBoard b → IfDone (job_in name kind cancelable b)
  job_in_kept name kind cancelable b invariants =
      faults_then (come_faults name b) (done (record b { units = put unit_before (new_unit name kind cancelable) b.units }))
      (λ absent. (new_unit_kept (new_unit name kind cancelable) b absent.1.0 invariants.0, invariants.1))

  stop_kept : (name : Name) (b : BoardRows) → IsKeptBoard b → IfDone (stop name b)
  stop_kept name b invariants =
      found_then NoUnit (unit_at b name) (λ unit. faults_or (kind_faults unit) (done (at_unit name (λ u. record u { stopping = true }) b)))
      (λ unit at. faults_then (kind_faults unit) (done (at_unit name (λ u. record u { stopping = true }) b))
      (λ absent. (
        at_unit_kept name (λ (u : UnitRow). record u { stopping = true }) b (λ u. refl) invariants.0,
        invariants.1,
      )))

  modify_kept : (name text : Name) (b : BoardRows) → IsKeptBoard b → IfDone (modify name text b)
  modify_kept name text b invariants =
      found_then NoUnit (unit_at b name) (λ unit. faults_or (kind_faults unit) (done (at_unit name (λ u. record u { last_text = Some text }) b)))
      (λ unit at. faults_then (kind_faults unit) (done (at_unit name (λ u. record u { last_text = Some text }) b))
      (λ absent. (
        at_unit_kept name (λ (u : UnitRow). record u { last_text = Some text }) b (λ u. refl)
            invariants.0,
        invariants.1,
      )))

  -- devices

  device_kept : (row : DeviceRow) (b : BoardRows) → IsKeptBoard b → IsHeldRightly b.units row → IsKeptBoard (with_device row b)
  device_kept row b invariants right = (with_device_kept row b right invariants.0, invariants.1)

  vary_online_kept : (number : Name) (b : BoardRows) → IsKeptBoard b → IfDone (vary_online number b)
  vary_online_kept number b invariants =
      found_then NoDevice (device_at b number) (λ d. faults_or (online_faults d) (done (with_device (record d { online = true }) b)))
      (λ d at. faults_then (online_faults d) (done (with_device (record d { online = true }) b))
      (λ absent. device_kept (record d { online = true }) b invariants (held_online b.units d.online d.unit (device_held b number d at invariants.0))))

  vary_offline_kept : (number : Name) (b : BoardRows) → IsKeptBoard b → IfDone (vary_offline number b)
  vary_offline_kept number b invariants =
      found_then NoDevice (device_at b number) (λ d. faults_or (offline_faults d) (done (with_device (record d { online = false }) b)))
      (λ d at. faults_then (offline_faults d) (done (with_device (record d { online = false }) b))
      (λ absent. device_kept (record d { online = false }) b invariants (held_by_none b.units false d.unit absent.1.0)))

  mount_kept : (number volume : Name) (b : BoardRows) → IsKeptBoard b → IfDone (mount number volume b)
  mount_kept number volume b invariants =
      found_then NoDevice (device_at b number) (λ d. faults_or (mount_faults d) (done (with_device (record d { volume = Some volume }) b)))
      (λ d at. faults_then (mount_faults d) (done (with_device (record d { volume = Some volume }) b))
      (λ absent. device_kept (record d { volume = Some volume }) b invariants (device_held b number d at invariants.0)))

  unload_kept : (number : Name) (b : BoardRows) → IsKeptBoard b → IfDone (unload number b)
  unload_kept number b invariants =
      found_then NoDevice (device_at b number) (λ d. faults_or (unload_faults d) (done (with_device (record d { volume = None }) b)))
      (λ d at. faults_then (unload_faults d) (done (with_device (record d { volume = None }) b))
      (λ absent. device_kept (record d { volume = None }) b invariants (device_held b number d at invariants.0)))

  swap_kept : (from to : Name) (b : BoardRows) → IsKeptBoard b → IfDone (swap from to b)
  swap_kept from to b invariants =
      found_then NoDevice (device_at b from)
      (λ source. found NoDevice (device_at b to) >>= λ target. faults_or (swap_faults source target)
      (done (with_device (loaded source target) (with_device (emptied source) b))))
      (λ source there. found_then NoDevice (device_at b to)
      (λ target. faults_or (swap_faults source target)
      (done (with_device (loaded source target) (with_device (emptied source) b))))
      (λ target at. faults_then (swap_faults source target) (done (with_device (loaded source target) (with_device (emptied source) b)))
      (λ absent. device_kept (loaded source target) (with_device (emptied source) b) (device_kept (emptied source) b invariants tt)
      (holder_moves b.units source.online target.online source.unit (is_on target.online absent.1.0) (device_held b from source there invariants.0)))))

  attach_kept : (number : Name) (b : BoardRows) → IsKeptBoard b → IfDone (attach number b)
  attach_kept number b invariants =
      faults_then (attach_faults number b) (done (record b { devices = put device_before (new_device number) b.devices }))
      (λ absent. (new_device_kept (new_device number) b absent.0 tt invariants.0, invariants.1))

  allocate_kept : (number name : Name) (b : BoardRows) → IsKeptBoard b → IfDone (allocate number name b)
  allocate_kept number name b invariants =
      found_then NoDevice (device_at b number)
      (λ d. found NoUnit (unit_at b name) >>= λ unit. faults_or (allocate_faults d)
      (done (with_device (record d { unit = Some name }) b)))
      (λ d there. found_then NoUnit (unit_at b name) (λ unit. faults_or (allocate_faults d) (done (with_device (record d { unit = Some name }) b)))
      (λ unit at. faults_then (allocate_faults d) (done (with_device (record d { unit = Some name }) b))
      (λ absent. device_kept (record d { unit = Some name }) b invariants (is_on d.online absent.0, ap is_some at))))

  free_kept : (number : Name) (b : BoardRows) → IsKeptBoard b → IfDone (free number b)
  free_kept number b invariants =
      found_then NoDevice (device_at b number) (λ d. faults_or (free_faults d) (done (with_device (record d { unit = None }) b)))
      (λ d at. faults_then (free_faults d) (done (with_device (record d { unit = None }) b)) (λ absent. device_kept (record d { unit = None }) b invariants tt))

  -- consoles

  pub console_kept : (row : ConsoleRow) (b : BoardRows) → IsKeptBoard b → IsConsoleOfStored p row → IsKeptBoard (with_console row b)
  console_kept row b invariants stored = (
    with_console_kept row b invariants.0,
    all_changed (IsConsoleOfStored p) (λ c. is c.name row.name) (λ c. row) (λ c here was. stored) b.consoles
        invariants.1,
  )

  pub console_stored : (name : Name) (c : ConsoleRow) (b : BoardRows) → console_at b name ≡ Some c → IsKeptBoard b → IsConsoleOfStored p c
  console_stored name c b at invariants = all_found (IsConsoleOfStored p) (λ d. is d.name name) c b.consoles at invariants.1

  varied_kept : (row : ConsoleRow) (b : BoardRows) → IsKeptBoard b → IsConsoleOfStored p row → IfDone (varied row b)
  varied_kept row b invariants stored = faults_then (vary_faults row b) (done (with_console row b)) (λ absent. console_kept row b invariants stored)

  console_online_kept : (name : Name) (b : BoardRows) → IsKeptBoard b → IfDone (vary_console_online name b)
  console_online_kept name b invariants =
      found_then NoTarget (console_at b name) (λ c. varied (record c { online = true }) b)
      (λ c at. varied_kept (record c { online = true }) b invariants (console_stored name c b at invariants))

  offline_stored : (c : ConsoleRow) → IsConsoleOfStored p c → IsConsoleOfStored p (put_offline c)
  offline_stored c stored = go c.online
    where
      go : (online : Bool) → IsConsoleOfStored p (if online then record c { online = false; user = None } else c)
      go true = tt
      go false = stored

  console_offline_kept : (name : Name) (b : BoardRows) → IsKeptBoard b → IfDone (vary_console_offline name b)
  console_offline_kept name b invariants =
      found_then NoTarget (console_at b name) (λ c. varied (put_offline c) b)
      (λ c at. varied_kept (put_offline c) b invariants (offline_stored c (console_stored name c b at invariants)))

  console_auth_kept : (name : Name) (auth : Auth) (b : BoardRows) → IsKeptBoard b → IfDone (vary_console_auth name auth b)
  console_auth_kept name auth b invariants =
      found_then NoTarget (console_at b name) (λ c. varied (record c { auth = auth }) b)
      (λ c at. varied_kept (record c { auth = auth }) b invariants (console_stored name c b at invariants))

  reset_kept : (name : Name) (b : BoardRows) → IsKeptBoard b → IfDone (reset_console name b)
  reset_kept name b invariants =
      found_then NoTarget (console_at b name) (λ c. done (with_console (record c { user = None }) b))
      (λ c at. console_kept (record c { user = None }) b invariants tt)

  -- a change at one console, which leaves its name
  pub changed_kept : (name : Name) (change : ConsoleRow → ConsoleRow) (b : BoardRows)
      → ((c : ConsoleRow) → (change c).name ≡ c.name)
      → ((c : ConsoleRow) → IsConsoleOfStored p c → IsConsoleOfStored p (change c))
      → IsKeptBoard b → IsKeptBoard (at_console name change b)
  changed_kept name change b same stored invariants = (
    at_console_kept name change b same invariants.0,
    all_changed (IsConsoleOfStored p) (λ c. is c.name name) change (λ c here was. stored c was) b.consoles
        invariants.1,
  )

  -- a console is defined
  pub defined_kept : (name : Name) (auth : Auth) (mode : Mode) (b : BoardRows) → IsKeptBoard b → IsKeptBoard (console_defined name auth mode b)
  defined_kept name auth mode b invariants = go (console_at b name) refl
    where
      go : (o : Option ConsoleRow) → console_at b name ≡ o → IsKeptBoard (defined name auth mode o b)
      go None at = (
        new_console_kept (new_console name auth mode) b at invariants.0,
        all_put (IsConsoleOfStored p) console_before (new_console name auth mode) tt b.consoles invariants.1,
      )
      go (Some c) at = console_kept (record c { auth = auth; mode = mode }) b invariants (console_stored name c b at invariants)

  -- replies, messages and the day

  reply_kept : (id : ℕ) (text : Name) (b : BoardRows) → IsKeptBoard b → IfDone (reply id text b)
  reply_kept id text b invariants =
      found_then NoReply (reply_at b id)
      (λ r. done_with (answered id text (without_reply id b)) (reply_line id text ∷ []))
      (λ r at. (fewer_replies_kept b (λ q. not (q.id == id)) invariants.0, invariants.1))

  ask_kept : (id : ℕ) (text : Name) (b : BoardRows) → IsKeptBoard b → IfDone (ask id text b)
  ask_kept id text b invariants =
      faults_then (ask_faults id b) (done (record b { replies = put reply_before (record { id = id; text = text }) b.replies }))
      (λ absent. (new_reply_kept (record { id = id; text = text }) b absent.0 invariants.0, invariants.1))

  send_kept : (user text : Name) (b : BoardRows) → IsKeptBoard b → IfDone (send user text b)
  send_kept user text b invariants = faults_then (send_faults user b) (done (record b {
    messages = b.messages ++ record {
      user = user;
      text = text;
    } ∷ [];
  })) (λ absent. invariants)

  halt_kept : (b : BoardRows) → IsKeptBoard b → IfDone (halt b)
  halt_kept b invariants = faults_then (halt_faults b) (done (record b { halted = true })) (λ absent. invariants)

  pub effect_kept : (b : BoardRows) (k : Command) (console : Name) → IsKeptBoard b → IfDone (effect b k console)
  effect_kept b command.DisplayUnits console invariants = invariants
  effect_kept b (command.DisplayUnit name) console invariants = invariants
  effect_kept b command.DisplayDevices console invariants = invariants
  effect_kept b command.DisplayConsoles console invariants = invariants
  effect_kept b command.DisplayReplies console invariants = invariants
  effect_kept b (command.Cancel name) console invariants = cancel_kept name.value b invariants
  effect_kept b (command.CancelUser user) console invariants = cancel_user_kept user.value b invariants
  effect_kept b (command.Force name) console invariants = force_kept name.value b invariants
  effect_kept b (command.Start member) console invariants = job_in_kept member.value (Stc member.value) true b invariants
  effect_kept b (command.StartAs member id) console invariants = job_in_kept id.value (Stc member.value) true b invariants
  effect_kept b (command.Stop name) console invariants = stop_kept name.value b invariants
  effect_kept b (command.Modify name text) console invariants = modify_kept name.value (text_value text.typed.text) b invariants
  effect_kept b (command.Reply id text) console invariants = reply_kept id.value (text_value text.typed.text) b invariants
  effect_kept b (command.VaryDeviceOnline device) console invariants = vary_online_kept device.value b invariants
  effect_kept b (command.VaryDeviceOffline device) console invariants = vary_offline_kept device.value b invariants
  effect_kept b (command.VaryConsoleOnline name) console invariants = console_online_kept name.value b invariants
  effect_kept b (command.VaryConsoleOffline name) console invariants = console_offline_kept name.value b invariants
  effect_kept b (command.VaryConsoleAuth name auth) console invariants = console_auth_kept name.value auth.value b invariants
  effect_kept b (command.Mount device volume) console invariants = mount_kept device.value volume.value b invariants
  effect_kept b (command.Unload device) console invariants = unload_kept device.value b invariants
  effect_kept b (command.Swap from to) console invariants = swap_kept from.value to.value b invariants
  effect_kept b (command.ResetConsole name) console invariants = reset_kept name.value b invariants
  effect_kept b (command.Send text user) console invariants = send_kept user.value (text_value text.typed.text) b invariants
  effect_kept b (command.Log text) console invariants = invariants
  effect_kept b command.Monitor console invariants =
      changed_kept console (λ (c : ConsoleRow). record c { monitor = true }) b (λ c. refl) (λ c stored. stored)
      invariants
  effect_kept b command.StopMonitor console invariants =
      changed_kept console (λ (c : ConsoleRow). record c { monitor = false }) b (λ c. refl) (λ c stored. stored)
      invariants
  effect_kept b command.Halt console invariants = halt_kept b invariants
  effect_kept b (command.Logon user password) console invariants = invariants
  effect_kept b command.Logoff console invariants = invariants

  pub event_kept : (b : BoardRows) (e : Event) → IsKeptBoard b → IfDone (event_effect b e)
  event_kept b (event.JobIn name kind cancelable) invariants = job_in_kept name kind cancelable b invariants
  event_kept b (event.JobEnd name) invariants = job_end_kept name b invariants
  event_kept b (event.Ask id text) invariants = ask_kept id text b invariants
  event_kept b (event.Attach device) invariants = attach_kept device b invariants
  event_kept b (event.Allocate device unit) invariants = allocate_kept device unit b invariants
  event_kept b (event.Free device) invariants = free_kept device b invariants
  event_kept b event.Resume invariants = invariants
