-- What commands and events leave of the consoles: their names, authorities and modes.
use Rattle.std.proofs.Common.{◌≡◌, ◌∙◌, ◌++◌, ◌∷◌, ℕ, Bool, true, false, [], List, Option, Some, None, Ok, Err, ap, refl, rules, subst, sym}
use Rattle.std.specs.Prelude.{find, if◌then◌else◌, map}
use Rattle.opc_policy_members.specs.declared.row.Row.{Row}
use Rattle.opc_rows.specs.Ordered.{changed, put}
use Rattle.opc_reader_commands.specs.declared.command.Command.{Command}
use Rattle.opc_reader_commands.specs.declared.command.Command.TheVariants as command
use Rattle.opc_reader_commands.specs.Quotes.{text_value}
use Rattle.opc_board.specs.declared.board.BoardRows.{BoardRows}
use Rattle.opc_board.specs.declared.event.Event.{Event}
use Rattle.opc_board.specs.declared.event.Event.TheVariants as event
use Rattle.opc_board.specs.declared.fault.BoardFault.{BoardFault}
use Rattle.opc_board.specs.declared.fault.BoardFault.TheVariants.{NoDevice, NoReply, NoTarget, NoUnit}
use Rattle.opc_board.specs.declared.rows.ConsoleRow.{ConsoleRow}
use Rattle.opc_board.specs.declared.rows.DeviceRow.{DeviceRow}
use Rattle.opc_board.specs.declared.rows.UnitKind.{UnitKind}
use Rattle.opc_board.specs.declared.rows.UnitKind.TheVariants.{Stc}
use Rattle.opc_board.specs.declared.rows.UnitRow.{UnitRow}
use Rattle.opc_board.specs.Consoles.{put_offline, replaced, vary_faults, varied, with_console}
use Rattle.opc_board.specs.Consoles.{reset_console, vary_console_offline, vary_console_online}
use Rattle.opc_board.specs.Devices.{
  allocate,
  allocate_faults,
  attach,
  attach_faults,
  emptied,
  free_faults,
  loaded,
  mount_faults,
  new_device,
  offline_faults,
  online_faults,
  swap,
  swap_faults,
  unload_faults,
  with_device,
}
use Rattle.opc_board.specs.Effect.{effect, event_effect}
use Rattle.opc_board.specs.Invariants.{Name, console_at, device_at, device_before, is, reply_at, reply_before, unit_at, unit_before}
use Rattle.opc_board.specs.Outcome.{BoardOutcome, done, done_with, faults_or, found, ◌>>=◌}
use Rattle.opc_board.specs.Replies.{answered, ask, ask_faults, halt_faults, reply, send, send_faults, without_reply}
use Rattle.opc_board.specs.Texts.{reply_line}
use Rattle.opc_board.specs.Units.{at_unit, cancel_faults, cancel_user_faults, come_faults, force_faults, job_end, job_in, kind_faults, new_unit, without_unit}
use Rattle.opc_board.proofs.Names.{is_same_name}
use Rattle.opc_state.specs.PolicyFile.{row_of_console}
use Rattle.opc_policy_changes.specs.Changing.{gives_authority}

abbrev pub seen : List ConsoleRow → List Row
seen consoles = map row_of_console consoles

-- a change at the first console of a kind, which leaves its row of a policy file
pub changed_leaves : (p : ConsoleRow → Bool) (change : ConsoleRow → ConsoleRow) (consoles : List ConsoleRow)
    → ((c : ConsoleRow) → row_of_console (change c) ≡ row_of_console c) → seen (changed p change consoles) ≡ seen consoles
changed_leaves p change [] same = refl
changed_leaves p change (c ∷ more) same = go (p c) (changed_leaves p change more same)
  where
    go : (here : Bool) → seen (changed p change more) ≡ seen more
        → seen (if here then change c ∷ more else c ∷ changed p change more) ≡ seen (c ∷ more)
    go true rest = ap (λ row. row ∷ seen more) (same c)
    go false rest = ap (λ rows. row_of_console c ∷ rows) rest

some_is : (c d : ConsoleRow) → (let o : Option ConsoleRow = Some c in o) ≡ Some d → c ≡ d
some_is c d e = search (rules, e)

-- the console that is found becomes this row, with the same row of a policy file
found_leaves : (p : ConsoleRow → Bool) (was row : ConsoleRow) (consoles : List ConsoleRow) → find p consoles ≡ Some was
    → row_of_console row ≡ row_of_console was → seen (changed p (λ c. row) consoles) ≡ seen consoles
found_leaves p was row [] at same = absurd (search (rules, at))
found_leaves p was row (c ∷ more) at same = go (p c) at (λ k. found_leaves p was row more k same)
  where
    go : (here : Bool) → (if here then Some c else find p more) ≡ Some was
        → (find p more ≡ Some was → seen (changed p (λ d. row) more) ≡ seen more)
        → seen (if here then row ∷ more else c ∷ changed p (λ d. row) more) ≡ seen (c ∷ more)
    go true k rest = ap (λ one. one ∷ seen more) (same ∙ ap row_of_console (sym (some_is c was k)))
    go false k rest = ap (λ rows. row_of_console c ∷ rows) (rest k)

found_name : (name : Name) (was : ConsoleRow) (consoles : List ConsoleRow) → find (λ c. is c.name name) consoles ≡ Some was
    → was.name ≡ name
found_name name was [] at = absurd (search (rules, at))
found_name name was (c ∷ more) at = go (is c.name name) refl at (found_name name was more)
  where
    go : (here : Bool) → is c.name name ≡ here → (if here then Some c else find (λ d. is d.name name) more) ≡ Some was
        → (find (λ (d : ConsoleRow). is d.name name) more ≡ Some was → was.name ≡ name) → was.name ≡ name
    go true so k rest = subst (λ (d : ConsoleRow). d.name ≡ name) (some_is c was k) (is_same_name c.name name so)
    go false so k rest = rest k

replaced_leaves : (name : Name) (was row : ConsoleRow) (b : BoardRows) → console_at b name ≡ Some was → row.name ≡ was.name
    → row_of_console row ≡ row_of_console was → seen (replaced row b.consoles) ≡ seen b.consoles
replaced_leaves name was row b at named same =
    found_leaves (λ c. is c.name row.name) was row b.consoles
    (subst (λ n. find (λ (c : ConsoleRow). is c.name n) b.consoles ≡ Some was) (sym (named ∙ found_name name was b.consoles at)) at) same

module _ (b : BoardRows) where
  abbrev pub IfLeft : BoardOutcome → Type 0
  IfLeft (Ok d) = seen d.board.consoles ≡ seen b.consoles
  IfLeft (Err f) = Unit {0}

  found_then : {A : Type 0} (f : BoardFault) (o : Option A) (next : A → BoardOutcome) → ((x : A) → o ≡ Some x → IfLeft (next x)) → IfLeft (found f o >>= next)
  found_then f (Some x) next h = h x refl
  found_then f None next h = tt

  faults_then : (faults : List (Bool × BoardFault)) (o : BoardOutcome) → IfLeft o → IfLeft (faults_or faults o)
  faults_then [] o h = h
  faults_then (fault ∷ faults) o h = go fault.0 (faults_then faults o h)
    where
      go : (there : Bool) → IfLeft (faults_or faults o) → IfLeft (if there then Err fault.1 else faults_or faults o)
      go true rest = tt
      go false rest = rest

  leaving : (name : Name) (faults : UnitRow → List (Bool × BoardFault))
      → IfLeft (found NoUnit (unit_at b name) >>= λ unit. faults_or (faults unit) (done (without_unit name b)))
  leaving name faults = found_then NoUnit (unit_at b name) (λ unit. faults_or (faults unit) (done (without_unit name b)))
      (λ unit at. faults_then (faults unit) (done (without_unit name b)) refl)

  comes : (name : Name) (kind : UnitKind) (cancelable : Bool) → IfLeft (job_in name kind cancelable b)
  comes name kind cancelable = faults_then (come_faults name b)
      (done (record b { units = put unit_before (new_unit name kind cancelable) b.units })) refl

  unit_becomes : (name : Name) (change : UnitRow → UnitRow)
      → IfLeft (found NoUnit (unit_at b name) >>= λ unit. faults_or (kind_faults unit) (done (at_unit name change b)))
  unit_becomes name change = found_then NoUnit (unit_at b name) (λ unit. faults_or (kind_faults unit) (done (at_unit name change b)))
      (λ unit at. faults_then (kind_faults unit) (done (at_unit name change b)) refl)

  device_becomes : (number : Name) (faults : DeviceRow → List (Bool × BoardFault)) (change : DeviceRow → DeviceRow)
      → IfLeft (found NoDevice (device_at b number) >>= λ d. faults_or (faults d) (done (with_device (change d) b)))
  device_becomes number faults change =
      found_then NoDevice (device_at b number) (λ d. faults_or (faults d) (done (with_device (change d) b)))
      (λ d at. faults_then (faults d) (done (with_device (change d) b)) refl)

  swapped : (from to : Name) → IfLeft (swap from to b)
  swapped from to =
      found_then NoDevice (device_at b from) (λ source. found NoDevice (device_at b to) >>= λ target. faults_or (swap_faults source target)
      (done (with_device (loaded source target) (with_device (emptied source) b))))
      (λ source at. found_then NoDevice (device_at b to) (λ target. faults_or (swap_faults source target)
      (done (with_device (loaded source target) (with_device (emptied source) b))))
      (λ target there. faults_then (swap_faults source target)
      (done (with_device (loaded source target) (with_device (emptied source) b))) refl))

  allocated : (number name : Name) → IfLeft (allocate number name b)
  allocated number name =
      found_then NoDevice (device_at b number)
      (λ d. found NoUnit (unit_at b name) >>= λ unit. faults_or (allocate_faults d) (done (with_device (record d { unit = Some name }) b)))
      (λ d at. found_then NoUnit (unit_at b name) (λ unit. faults_or (allocate_faults d) (done (with_device (record d { unit = Some name }) b)))
      (λ unit there. faults_then (allocate_faults d) (done (with_device (record d { unit = Some name }) b)) refl))

  varied_left : (name : Name) (was row : ConsoleRow) → console_at b name ≡ Some was → row.name ≡ was.name
      → row_of_console row ≡ row_of_console was → IfLeft (varied row b)
  varied_left name was row at named same = faults_then (vary_faults row b) (done (with_console row b)) (replaced_leaves name was row b at named same)

  online : (name : Name) → IfLeft (vary_console_online name b)
  online name = found_then NoTarget (console_at b name) (λ c. varied (record c { online = true }) b)
      (λ c at. varied_left name c (record c { online = true }) at refl refl)

  offline : (name : Name) → IfLeft (vary_console_offline name b)
  offline name = found_then NoTarget (console_at b name) (λ c. varied (put_offline c) b)
      (λ c at. varied_left name c (put_offline c) at (named c c.online) (same c c.online))
    where
      named : (c : ConsoleRow) (on : Bool) → (if on then record c { online = false; user = None } else c).name ≡ c.name
      named c true = refl
      named c false = refl

      same : (c : ConsoleRow) (on : Bool) → row_of_console (if on then record c { online = false; user = None } else c) ≡ row_of_console c
      same c true = refl
      same c false = refl

  reset : (name : Name) → IfLeft (reset_console name b)
  reset name = found_then NoTarget (console_at b name) (λ c. done (with_console (record c { user = None }) b))
      (λ c at. replaced_leaves name c (record c { user = None }) b at refl refl)

  replied : (id : ℕ) (text : Name) → IfLeft (reply id text b)
  replied id text = found_then NoReply (reply_at b id) (λ r. done_with (answered id text (without_reply id b)) (reply_line id text ∷ []))
      (λ r at. refl)

  asked : (id : ℕ) (text : Name) → IfLeft (ask id text b)
  asked id text = faults_then (ask_faults id b) (done (record b { replies = put reply_before (record { id = id; text = text }) b.replies })) refl

  sent : (user text : Name) → IfLeft (send user text b)
  sent user text = faults_then (send_faults user b) (done (record b {
    messages = b.messages ++ record {
      user = user;
      text = text;
    } ∷ [];
  })) refl

  pub effect_leaves : (k : Command) (console : Name) → gives_authority (Ok k) ≡ false → IfLeft (effect b k console)
  effect_leaves command.DisplayUnits console other = refl
  effect_leaves (command.DisplayUnit name) console other = refl
  effect_leaves command.DisplayDevices console other = refl
  effect_leaves command.DisplayConsoles console other = refl
  effect_leaves command.DisplayReplies console other = refl
  effect_leaves (command.Cancel name) console other = leaving name.value cancel_faults
  effect_leaves (command.CancelUser user) console other = leaving user.value cancel_user_faults
  effect_leaves (command.Force name) console other = leaving name.value force_faults
  effect_leaves (command.Start member) console other = comes member.value (Stc member.value) true
  effect_leaves (command.StartAs member id) console other = comes id.value (Stc member.value) true
  effect_leaves (command.Stop name) console other = unit_becomes name.value (λ u. record u { stopping = true })
  effect_leaves (command.Modify name text) console other =
      unit_becomes name.value (λ u. record u { last_text = Some (text_value text.typed.text) })
  effect_leaves (command.Reply id text) console other = replied id.value (text_value text.typed.text)
  effect_leaves (command.VaryDeviceOnline device) console other = device_becomes device.value online_faults (λ d. record d { online = true })
  effect_leaves (command.VaryDeviceOffline device) console other = device_becomes device.value offline_faults (λ d. record d { online = false })
  effect_leaves (command.VaryConsoleOnline name) console other = online name.value
  effect_leaves (command.VaryConsoleOffline name) console other = offline name.value
  effect_leaves (command.VaryConsoleAuth name auth) console other = absurd (cc)
  effect_leaves (command.Mount device volume) console other =
      device_becomes device.value mount_faults (λ d. record d { volume = Some volume.value })
  effect_leaves (command.Unload device) console other = device_becomes device.value unload_faults (λ d. record d { volume = None })
  effect_leaves (command.Swap from to) console other = swapped from.value to.value
  effect_leaves (command.ResetConsole name) console other = reset name.value
  effect_leaves (command.Send text user) console other = sent user.value (text_value text.typed.text)
  effect_leaves (command.Log text) console other = refl
  effect_leaves command.Monitor console other =
      changed_leaves (λ c. is c.name console) (λ c. record c { monitor = true }) b.consoles (λ c. refl)
  effect_leaves command.StopMonitor console other =
      changed_leaves (λ c. is c.name console) (λ c. record c { monitor = false }) b.consoles (λ c. refl)
  effect_leaves command.Halt console other = faults_then (halt_faults b) (done (record b { halted = true })) refl
  effect_leaves (command.Logon user password) console other = refl
  effect_leaves command.Logoff console other = refl

  ended : (name : Name) → IfLeft (job_end name b)
  ended name = found_then NoUnit (unit_at b name) (λ unit. done (without_unit name b)) (λ unit at. refl)

  attached : (number : Name) → IfLeft (attach number b)
  attached number = faults_then (attach_faults number b) (done (record b { devices = put device_before (new_device number) b.devices })) refl

  pub event_leaves : (e : Event) → IfLeft (event_effect b e)
  event_leaves (event.JobIn name kind cancelable) = comes name kind cancelable
  event_leaves (event.JobEnd name) = ended name
  event_leaves (event.Ask id text) = asked id text
  event_leaves (event.Attach device) = attached device
  event_leaves (event.Allocate device unit) = allocated device unit
  event_leaves (event.Free device) = device_becomes device free_faults (λ d. record d { unit = None })
  event_leaves event.Resume = refl
