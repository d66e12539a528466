-- What each command and each event does, and that an online console with AUTH MASTER stays if there was one.
use Rattle.std.proofs.Common.{
  ◌≡◌,
  inl,
  inr,
  ℕ,
  suc,
  Bool,
  true,
  false,
  not,
  ◌||◌,
  ◌==◌,
  List,
  [],
  ◌∷◌,
  ◌++◌,
  Option,
  Some,
  None,
  refl,
  sym,
  ap,
  subst,
  ◌∙◌,
  arith,
  rules,
}
use Rattle.std.specs.List.{Contains, list_any}
use Rattle.std.specs.Option.{is_some}
use Rattle.opc_terms.specs.declared.need.Need.{Need}
use Rattle.opc_reader_commands.specs.declared.command.Command.{Command}
use Rattle.opc_reader_commands.specs.declared.command.Command.TheVariants as command
use Rattle.opc_reader_commands.specs.Quotes.{text_value}
use Rattle.opc_rows.specs.Ordered.{put}
use Rattle.opc_rows.proofs.Filtered.{find_seen}
use Rattle.opc_board.specs.declared.board.BoardRows.{BoardRows}
use Rattle.opc_board.specs.declared.event.Event.{Event}
use Rattle.opc_board.specs.declared.event.Event.TheVariants as event
use Rattle.opc_board.specs.declared.fault.BoardFault.TheVariants.{NoDevice, NoReply, NoTarget, NoUnit}
use Rattle.opc_board.specs.declared.rows.ConsoleRow.{ConsoleRow}
use Rattle.opc_board.specs.declared.rows.DeviceRow.{DeviceRow}
use Rattle.opc_board.specs.declared.rows.ReplyRow.{ReplyRow}
use Rattle.opc_board.specs.declared.rows.UnitKind.TheVariants.{Stc}
use Rattle.opc_board.specs.declared.rows.UnitRow.{UnitRow}
use Rattle.opc_board.specs.Consoles.{at_console, put_offline, replaced, varied, vary_faults, with_console}
use Rattle.opc_board.specs.Devices.{
  allocate_faults,
  attach_faults,
  emptied,
  free_faults,
  loaded,
  mount_faults,
  new_device,
  offline_faults,
  online_faults,
  swap_faults,
  unload_faults,
  with_device,
}
use Rattle.opc_board.specs.Effect.{effect, event_effect}
use Rattle.opc_board.specs.Invariants.{Name, console_at, device_at, device_before, has_master, is, is_master, reply_at, reply_before, unit_at, unit_before}
use Rattle.opc_board.specs.Outcome.{◌>>=◌, done, done_with, faults_or, found}
use Rattle.opc_board.specs.Replies.{answered, ask_faults, halt_faults, has_session, is_on, is_session, send_faults, without_reply}
use Rattle.opc_board.specs.Texts.{reply_line}
use Rattle.opc_board.specs.Units.{at_unit, cancel_faults, cancel_user_faults, come_faults, force_faults, is_holder, is_tsu, kind_faults, new_unit, without_unit}
use Rattle.opc_board.proofs.Agreeing.{same_number}
use Rattle.opc_board.proofs.Names.{is_same_name}
use Rattle.opc_machine.specs.Commands.{need_of}
use Rattle.opc_machine.proofs.Inversion.{is_on as on_unless_off}
use Rattle.opc_machine_laws.specs.EffectLaws.{Comes, HasDone, HasHappened, Leaves, MayBeNotified}
use Rattle.opc_machine_laws.proofs.Boards.{IfActs, faults_act, found_acts}
use Rattle.opc_machine_laws.proofs.AtNames.{
  apart_numbers,
  at_becomes,
  comes,
  console_becomes,
  device_becomes,
  goes_offline,
  named,
  no_more,
  none_is,
  not_tsu,
  number_itself,
  offline_name,
  swapped,
  tsu_is,
  unit_becomes,
  unit_comes,
  unit_leaves,
}
use Rattle.opc_machine_laws.proofs.Finding.{any_same, any_unseen, find_left_out, find_put, find_put_others}
use Rattle.opc_machine_laws.proofs.Taking.{kept_master}

-- replies

reply_leaves : (id : ℕ) (b : BoardRows) (r : ReplyRow) → reply_at b id ≡ Some r → Leaves (reply_at b) (reply_at (without_reply id b)) id (λ reply. Unit {0})
reply_leaves id b r there = record {
  was = r;
  there = there;
  of_kind = tt;
  gone = find_left_out (λ q. q.id == id) b.replies;
  others = λ other apart. find_seen (λ q. q.id == other) (λ q. not (q.id == id))
      (λ q same. ap not (apart_numbers q.id id (λ e. apart (sym (same_number q.id other same) ∙ e)))) b.replies;
}

reply_comes : (r : ReplyRow) (b : BoardRows) → is_some (reply_at b r.id) ≡ false
    → Comes (reply_at b) (reply_at (record b { replies = put reply_before r b.replies })) r.id r
reply_comes r b free =
    let none : reply_at b r.id ≡ None = none_is (reply_at b r.id) free in
    record {
      free = none;
      here = find_put reply_before r (λ q. q.id == r.id) (number_itself r.id) b.replies none;
      others = λ other apart. find_put_others reply_before r (λ q. q.id == other) (apart_numbers r.id other (λ e. apart (sym e))) b.replies;
    }

-- messages

any_there : {A : Type 0} (q : A → Bool) (xs : List A) → list_any q xs ≡ true → (x : A) × Contains xs x × (q x ≡ true)
any_there q [] h = absurd (cc)
any_there {A = A} q (x ∷ xs) h = go (q x) refl h (any_there q xs)
  where
    go : (b : Bool) → q x ≡ b → (b || list_any q xs) ≡ true
        → (list_any q xs ≡ true → (y : A) × Contains xs y × (q y ≡ true)) → (y : A) × Contains (x ∷ xs) y × (q y ≡ true)
    go true is k later = (x, (0, omega arith, refl), is)
    go false is k later = let found = later k in (found.0, (suc found.1.0, omega (arith, found.1.1), found.1.2), found.2)

held_by : (user : Name) (o : Option Name) → is_holder user o ≡ true → o ≡ Some user
held_by user None h = absurd (cc)
held_by user (Some holder) h = ap Some (is_same_name holder user h)

returned : (user : Name) (b : BoardRows) → (is_on user b || has_session user b) ≡ true → MayBeNotified user b
returned user b h = go (is_on user b) refl h
  where
    session : (o : Option UnitRow) → unit_at b user ≡ o → is_session o ≡ true → MayBeNotified user b
    session None at k = absurd (cc)
    session (Some unit) at k = inr (unit, at, tsu_is unit.kind k)

    go : (on : Bool) → is_on user b ≡ on → (on || has_session user b) ≡ true → MayBeNotified user b
    go true is k = let one = any_there (λ c. is_holder user c.user) b.consoles is in inl (one.0, one.1, held_by user one.0.user one.2)
    go false is k = session (unit_at b user) refl k

-- consoles with AUTH MASTER

abbrev pub StaysMastered : BoardRows → BoardRows → Type 0
StaysMastered old new = has_master old.consoles ≡ true → has_master new.consoles ≡ true

replaced_masters : (name : Name) (b : BoardRows) (c new : ConsoleRow) → console_at b name ≡ Some c → new.name ≡ c.name
    → is_master new ≡ is_master c → StaysMastered b (with_console new b)
replaced_masters name b c new there same alike was =
    let after : new.name ≡ name = same ∙ named (λ (d : ConsoleRow). d.name) b.consoles name c there in
    any_same (λ d. is d.name new.name) is_master (λ d. new) c alike b.consoles (subst (λ n. console_at b n ≡ Some c) (sym after) there) ∙ was

pub unseen_masters : (name : Name) (f : ConsoleRow → ConsoleRow) (b : BoardRows)
    → ((c : ConsoleRow) → is_master (f c) ≡ is_master c) → StaysMastered b (at_console name f b)
unseen_masters name f b alike was = any_unseen (λ c. is c.name name) is_master f alike b.consoles ∙ was

module _ (console : Name) (b : BoardRows) (row : ConsoleRow) (here : console_at b console ≡ Some row) where
  abbrev pub Does : Command → BoardRows → Type 0
  Does k new = HasDone console k b new × StaysMastered b new

  -- a command that needs something
  pub acts : (k : Command) (need : Need) → need_of b k ≡ Some need → IfActs (Does k) (effect b k console)
  acts command.DisplayUnits need needs = (refl, λ was. was)
  acts command.DisplayDevices need needs = (refl, λ was. was)
  acts command.DisplayConsoles need needs = (refl, λ was. was)
  acts command.DisplayReplies need needs = (refl, λ was. was)
  acts (command.DisplayUnit name) need needs = (refl, λ was. was)
  acts (command.Cancel name) need needs =
      found_acts (Does (command.Cancel name)) NoUnit (unit_at b name.value) (λ unit. faults_or (cancel_faults unit) (done (without_unit name.value b)))
      (λ unit there. faults_act (Does (command.Cancel name)) (cancel_faults unit) (done (without_unit name.value b))
      (λ absent. (
        unit_leaves name.value _ b unit there
            (not_tsu unit.kind absent.0, on_unless_off unit.cancelable absent.1.0),
        λ was. was,
      )))
  acts (command.CancelUser user) need needs =
      found_acts (Does (command.CancelUser user)) NoUnit (unit_at b user.value) (λ unit. faults_or (cancel_user_faults unit) (done (without_unit user.value b)))
      (λ unit there. faults_act (Does (command.CancelUser user)) (cancel_user_faults unit)
      (done (without_unit user.value b))
      (λ absent. (
        unit_leaves user.value _ b unit there
            (tsu_is unit.kind (on_unless_off (is_tsu unit.kind) absent.0), on_unless_off unit.cancelable absent.1.0),
        λ was. was,
      )))
  acts (command.Force name) need needs =
      found_acts (Does (command.Force name)) NoUnit (unit_at b name.value) (λ unit. faults_or (force_faults unit) (done (without_unit name.value b)))
      (λ unit there. faults_act (Does (command.Force name)) (force_faults unit) (done (without_unit name.value b))
      (λ absent. (unit_leaves name.value _ b unit there absent.0, λ was. was)))
  acts (command.Start member) need needs =
      faults_act (Does (command.Start member)) (come_faults member.value b)
      (done (record b { units = put unit_before (new_unit member.value (Stc member.value) true) b.units }))
      (λ absent. (unit_comes (new_unit member.value (Stc member.value) true) b absent.0 absent.1.0, λ was. was))
  acts (command.StartAs member id) need needs =
      faults_act (Does (command.StartAs member id)) (come_faults id.value b)
      (done (record b { units = put unit_before (new_unit id.value (Stc member.value) true) b.units }))
      (λ absent. (unit_comes (new_unit id.value (Stc member.value) true) b absent.0 absent.1.0, λ was. was))
  acts (command.Stop name) need needs =
      found_acts (Does (command.Stop name)) NoUnit (unit_at b name.value)
      (λ unit. faults_or (kind_faults unit)
      (done (at_unit name.value (λ (u : UnitRow). record u { stopping = true }) b)))
      (λ unit there. faults_act (Does (command.Stop name)) (kind_faults unit)
      (done (at_unit name.value (λ (u : UnitRow). record u { stopping = true }) b))
      (λ absent. (
        unit_becomes name.value (λ (u : UnitRow). record u { stopping = true }) _ b unit there refl
            (not_tsu unit.kind absent.0, refl),
        λ was. was,
      )))
  acts (command.Modify name text) need needs =
      found_acts (Does (command.Modify name text)) NoUnit (unit_at b name.value)
      (λ unit. faults_or (kind_faults unit)
      (done (at_unit name.value (λ (u : UnitRow). record u { last_text = Some (text_value text.typed.text) }) b)))
      (λ unit there. faults_act (Does (command.Modify name text)) (kind_faults unit)
      (done (at_unit name.value (λ (u : UnitRow). record u { last_text = Some (text_value text.typed.text) }) b))
      (λ absent. (
        unit_becomes name.value
            (λ (u : UnitRow). record u { last_text = Some (text_value text.typed.text) }) _ b unit there refl
            (not_tsu unit.kind absent.0, refl),
        λ was. was,
      )))
  acts (command.Reply id text) need needs =
      found_acts (Does (command.Reply id text)) NoReply (reply_at b id.value)
      (λ r. done_with (answered id.value (text_value text.typed.text) (without_reply id.value b))
      (reply_line id.value (text_value text.typed.text) ∷ []))
      (λ r there. ((reply_leaves id.value b r there, refl), λ was. was))
  acts (command.VaryDeviceOnline device) need needs =
      found_acts (Does (command.VaryDeviceOnline device)) NoDevice (device_at b device.value)
      (λ e. faults_or (online_faults e) (done (with_device (record e { online = true }) b)))
      (λ e there. faults_act (Does (command.VaryDeviceOnline device)) (online_faults e)
      (done (with_device (record e { online = true }) b))
      (λ absent. (
        device_becomes device.value (record e { online = true }) _ b e there refl (absent.0, refl),
        λ was. was,
      )))
  acts (command.VaryDeviceOffline device) need needs =
      found_acts (Does (command.VaryDeviceOffline device)) NoDevice (device_at b device.value)
      (λ e. faults_or (offline_faults e) (done (with_device (record e { online = false }) b)))
      (λ e there. faults_act (Does (command.VaryDeviceOffline device)) (offline_faults e)
      (done (with_device (record e { online = false }) b))
      (λ absent. (
        device_becomes device.value (record e { online = false }) _ b e there refl
            (on_unless_off e.online absent.0, none_is e.unit absent.1.0, refl),
        λ was. was,
      )))
  acts (command.VaryConsoleOnline name) need needs =
      found_acts (Does (command.VaryConsoleOnline name)) NoTarget (console_at b name.value) (λ c. varied (record c { online = true }) b)
      (λ c there. faults_act (Does (command.VaryConsoleOnline name)) (vary_faults (record c { online = true }) b)
      (done (with_console (record c { online = true }) b))
      (λ absent. (
        console_becomes name.value (record c { online = true }) _ b c there refl refl,
        kept_master (has_master b.consoles) (has_master (replaced (record c { online = true }) b.consoles))
            absent.0,
      )))
  acts (command.VaryConsoleOffline name) need needs =
      found_acts (Does (command.VaryConsoleOffline name)) NoTarget (console_at b name.value) (λ c. varied (put_offline c) b)
      (λ c there. faults_act (Does (command.VaryConsoleOffline name)) (vary_faults (put_offline c) b) (done (with_console (put_offline c) b))
      (λ absent. (
        console_becomes name.value (put_offline c) _ b c there (offline_name c) (goes_offline c),
        kept_master (has_master b.consoles) (has_master (replaced (put_offline c) b.consoles)) absent.0,
      )))
  acts (command.VaryConsoleAuth name auth) need needs =
      found_acts (Does (command.VaryConsoleAuth name auth)) NoTarget (console_at b name.value) (λ c. varied (record c { auth = auth.value }) b)
      (λ c there. faults_act (Does (command.VaryConsoleAuth name auth)) (vary_faults (record c { auth = auth.value }) b)
      (done (with_console (record c { auth = auth.value }) b))
      (λ absent. (
        console_becomes name.value (record c { auth = auth.value }) _ b c there refl refl,
        kept_master (has_master b.consoles) (has_master (replaced (record c { auth = auth.value }) b.consoles))
            absent.0,
      )))
  acts (command.Mount device volume) need needs =
      found_acts (Does (command.Mount device volume)) NoDevice (device_at b device.value)
      (λ e. faults_or (mount_faults e) (done (with_device (record e { volume = Some volume.value }) b)))
      (λ e there. faults_act (Does (command.Mount device volume)) (mount_faults e)
      (done (with_device (record e { volume = Some volume.value }) b))
      (λ absent. (
        device_becomes device.value (record e { volume = Some volume.value }) _ b e there refl
            (on_unless_off e.online absent.0, none_is e.volume absent.1.0, refl),
        λ was. was,
      )))
  acts (command.Unload device) need needs =
      found_acts (Does (command.Unload device)) NoDevice (device_at b device.value)
      (λ e. faults_or (unload_faults e) (done (with_device (record e { volume = None }) b)))
      (λ e there. faults_act (Does (command.Unload device)) (unload_faults e)
      (done (with_device (record e { volume = None }) b))
      (λ absent. (
        device_becomes device.value (record e { volume = None }) _ b e there refl
            (no_more e.volume absent.0, none_is e.unit absent.1.0, refl),
        λ was. was,
      )))
  acts (command.Swap from to) need needs =
      found_acts (Does (command.Swap from to)) NoDevice (device_at b from.value)
      (λ source. found NoDevice (device_at b to.value) >>= λ target. faults_or (swap_faults source target)
      (done (with_device (loaded source target) (with_device (emptied source) b))))
      (λ source at_from. found_acts (Does (command.Swap from to)) NoDevice (device_at b to.value)
      (λ target. faults_or (swap_faults source target)
      (done (with_device (loaded source target) (with_device (emptied source) b))))
      (λ target at_to. faults_act (Does (command.Swap from to)) (swap_faults source target)
      (done (with_device (loaded source target) (with_device (emptied source) b)))
      (λ absent. (
        swapped from.value to.value b source target at_from at_to (on_unless_off source.online absent.0)
            (on_unless_off target.online absent.1.0) (no_more source.volume absent.1.1.0)
            (none_is target.volume absent.1.1.1.0) (none_is target.unit absent.1.1.1.1.0),
        λ was. was,
      ))))
  acts (command.ResetConsole name) need needs =
      found_acts (Does (command.ResetConsole name)) NoTarget (console_at b name.value) (λ c. done (with_console (record c { user = None }) b))
      (λ c there. (
        console_becomes name.value (record c { user = None }) _ b c there refl refl,
        replaced_masters name.value b c (record c { user = None }) there refl refl,
      ))
  acts (command.Send text user) need needs =
      faults_act (Does (command.Send text user)) (send_faults user.value b) (done (record b {
        messages = b.messages ++ record {
          user = user.value;
          text = text_value text.typed.text;
        } ∷ [];
      }))
      (λ absent. ((returned user.value b (on_unless_off (is_on user.value b || has_session user.value b) absent.0), refl), λ was. was))
  acts (command.Log text) need needs = (refl, λ was. was)
  acts command.Monitor need needs = (
    at_becomes console (λ (c : ConsoleRow). record c { monitor = true }) _ b row here refl refl,
    unseen_masters console (λ (c : ConsoleRow). record c { monitor = true }) b (λ c. refl),
  )
  acts command.StopMonitor need needs = (
    at_becomes console (λ (c : ConsoleRow). record c { monitor = false }) _ b row here refl refl,
    unseen_masters console (λ (c : ConsoleRow). record c { monitor = false }) b (λ c. refl),
  )
  acts command.Halt need needs = faults_act (Does command.Halt) (halt_faults b) (done (record b { halted = true })) (λ absent. ((absent.0, refl), λ was. was))
  acts (command.Logon user password) need needs = absurd (search (rules, needs))
  acts command.Logoff need needs = absurd (search (rules, needs))

module _ (b : BoardRows) where
  abbrev pub Happens : Event → BoardRows → Type 0
  Happens e new = HasHappened e b new × StaysMastered b new

  pub happens : (e : Event) → IfActs (Happens e) (event_effect b e)
  happens (event.JobIn name kind cancelable) =
      faults_act (Happens (event.JobIn name kind cancelable)) (come_faults name b)
      (done (record b { units = put unit_before (new_unit name kind cancelable) b.units }))
      (λ absent. (unit_comes (new_unit name kind cancelable) b absent.0 absent.1.0, λ was. was))
  happens (event.JobEnd name) =
      found_acts (Happens (event.JobEnd name)) NoUnit (unit_at b name) (λ unit. done (without_unit name b))
      (λ unit there. (unit_leaves name _ b unit there tt, λ was. was))
  happens (event.Ask id text) =
      faults_act (Happens (event.Ask id text)) (ask_faults id b) (done (record b { replies = put reply_before (record { id = id; text = text }) b.replies }))
      (λ absent. ((reply_comes (record { id = id; text = text }) b absent.0, refl), λ was. was))
  happens (event.Attach device) =
      faults_act (Happens (event.Attach device)) (attach_faults device b) (done (record b { devices = put device_before (new_device device) b.devices }))
      (λ absent. ((comes (λ (d : DeviceRow). d.number) device_before b.devices (new_device device) absent.0, refl), λ was. was))
  happens (event.Allocate device unit) =
      found_acts (Happens (event.Allocate device unit)) NoDevice (device_at b device)
      (λ d. found NoUnit (unit_at b unit) >>= λ u. faults_or (allocate_faults d)
      (done (with_device (record d { unit = Some unit }) b)))
      (λ d there. found_acts (Happens (event.Allocate device unit)) NoUnit (unit_at b unit)
      (λ u. faults_or (allocate_faults d) (done (with_device (record d { unit = Some unit }) b)))
      (λ u at. faults_act (Happens (event.Allocate device unit)) (allocate_faults d) (done (with_device (record d { unit = Some unit }) b))
      (λ absent. (
        (
          ap is_some at,
          device_becomes device (record d { unit = Some unit }) _ b d there refl
              (on_unless_off d.online absent.0, none_is d.unit absent.1.0, refl),
        ),
        λ was. was,
      ))))
  happens (event.Free device) =
      found_acts (Happens (event.Free device)) NoDevice (device_at b device) (λ d. faults_or (free_faults d) (done (with_device (record d { unit = None }) b)))
      (λ d there. faults_act (Happens (event.Free device)) (free_faults d) (done (with_device (record d { unit = None }) b))
      (λ absent. (device_becomes device (record d { unit = None }) _ b d there refl (no_more d.unit absent.0, refl), λ was. was)))
  happens event.Resume = (refl, λ was. was)
