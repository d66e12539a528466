-- What commands and events leave on the board, for those who look at it afterwards.
use Rattle.std.specs.Prelude.{◌≡◌, ◌≢◌, ◌⊎◌, ℕ, true, false, List, [], ◌∷◌, ◌++◌, Option, Some, None, Contains}
use Rattle.std.specs.Option.{is_some}
use Rattle.opc_terms.specs.declared.rule.Rule.{Rule}
use Rattle.opc_reader_commands.specs.declared.command.Command.{Command}
use Rattle.opc_reader_commands.specs.declared.command.Command.TheVariants as command
use Rattle.opc_reader.specs.Lines.{Reads}
use Rattle.opc_reader_commands.specs.Quotes.{text_value}
use Rattle.opc_board.specs.declared.board.BoardRows.{BoardRows}
use Rattle.opc_board.specs.declared.event.Event.{Event}
use Rattle.opc_board.specs.declared.event.Event.TheVariants as event
use Rattle.opc_board.specs.declared.line.Line.{Line}
use Rattle.opc_board.specs.declared.rows.ConsoleRow.{ConsoleRow}
use Rattle.opc_board.specs.declared.rows.DeviceRow.{DeviceRow}
use Rattle.opc_board.specs.declared.rows.UnitKind.TheVariants.{Stc, Tsu}
use Rattle.opc_board.specs.declared.rows.UnitRow.{UnitRow}
use Rattle.opc_board.specs.Invariants.{Name, console_at, device_at, reply_at, unit_at}
use Rattle.opc_state.specs.State.{State}
use Rattle.opc_machine.specs.declared.request.Answer.TheVariants.{Done}
use Rattle.opc_machine.specs.Inputs as input
use Rattle.opc_machine.specs.Machine.{Step}

-- What was at a key has become another by this change, and at every other key is what was there.
pub record Becomes {K R : Type 0} (old new : K → Option R) (key : K) (change : R → R → Type 0) : Type 0 where
  pub was : R
  pub now : R
  pub there : old key ≡ Some was
  pub here : new key ≡ Some now
  pub changed : change was now
  pub others : (other : K) → other ≢ key → new other ≡ old other

-- One is added where none was.
pub record Comes {K R : Type 0} (old new : K → Option R) (key : K) (row : R) : Type 0 where
  pub free : old key ≡ None
  pub here : new key ≡ Some row
  pub others : (other : K) → other ≢ key → new other ≡ old other

-- One of this kind leaves.
pub record Leaves {K R : Type 0} (old new : K → Option R) (key : K) (kind : R → Type 0) : Type 0 where
  pub was : R
  pub there : old key ≡ Some was
  pub of_kind : kind was
  pub gone : new key ≡ None
  pub others : (other : K) → other ≢ key → new other ≡ old other

-- Nothing else on the board changes.
abbrev pub OnlyUnits : BoardRows → BoardRows → Type 0
OnlyUnits old new = new ≡ record old { units = new.units }

abbrev pub OnlyDevices : BoardRows → BoardRows → Type 0
OnlyDevices old new = new ≡ record old { devices = new.devices }

abbrev pub OnlyConsoles : BoardRows → BoardRows → Type 0
OnlyConsoles old new = new ≡ record old { consoles = new.consoles }

abbrev pub UnitBecomes : Name → (UnitRow → UnitRow → Type 0) → BoardRows → BoardRows → Type 0
UnitBecomes name change old new = Becomes (unit_at old) (unit_at new) name change × OnlyUnits old new

-- On a day that is halted no unit comes.
abbrev pub UnitComes : UnitRow → BoardRows → BoardRows → Type 0
UnitComes unit old new = (old.halted ≡ false) × Comes (unit_at old) (unit_at new) unit.name unit × OnlyUnits old new

-- A unit that leaves gives back the devices that it has, and those alone.
pub record AreGivenBack (unit : Name) (old new : BoardRows) : Type 0 where
  pub own : (number : Name) (d : DeviceRow) → device_at old number ≡ Some d
      → d.unit ≡ Some unit → device_at new number ≡ Some (record d { unit = None })
  pub others : (number : Name) (d : DeviceRow) → device_at old number ≡ Some d → d.unit ≢ Some unit
      → device_at new number ≡ Some d
  pub none : (number : Name) → device_at old number ≡ None → device_at new number ≡ None

abbrev pub UnitLeaves : Name → (UnitRow → Type 0) → BoardRows → BoardRows → Type 0
UnitLeaves name kind old new = Leaves (unit_at old) (unit_at new) name kind × AreGivenBack name old new
    × (new ≡ record old {
      units = new.units;
      devices = new.devices;
    })

abbrev pub DeviceBecomes : Name → (DeviceRow → DeviceRow → Type 0) → BoardRows → BoardRows → Type 0
DeviceBecomes number change old new = Becomes (device_at old) (device_at new) number change × OnlyDevices old new

-- Volume and use move from one device to another, which are both online.
pub record DevicesSwap (from to : Name) (old new : BoardRows) : Type 0 where
  pub source : DeviceRow
  pub target : DeviceRow
  pub there : (device_at old from ≡ Some source) × (device_at old to ≡ Some target)
  pub online : (source.online ≡ true) × (target.online ≡ true)
  pub full : is_some source.volume ≡ true
  pub empty : (target.volume ≡ None) × (target.unit ≡ None)
  pub emptied : device_at new from ≡ Some (record source { volume = None; unit = None })
  pub loaded : device_at new to ≡ Some (record target { volume = source.volume; unit = source.unit })
  pub others : (other : Name) → other ≢ from → other ≢ to → device_at new other ≡ device_at old other
  pub rest : OnlyDevices old new

abbrev pub ConsoleBecomes : Name → (ConsoleRow → ConsoleRow → Type 0) → BoardRows → BoardRows → Type 0
ConsoleBecomes name change old new = Becomes (console_at old) (console_at new) name change × OnlyConsoles old new

-- An online console goes offline, and nobody is logged on there any more; one that is offline stays as it is.
abbrev pub GoesOffline : ConsoleRow → ConsoleRow → Type 0
GoesOffline was now = (was.online ≡ true → now ≡ record was { online = false; user = None })
    × (was.online ≡ false → now ≡ was)

-- The user is logged on at some console, or has a session.
abbrev pub MayBeNotified : Name → BoardRows → Type 0
MayBeNotified user b = ((c : ConsoleRow) × Contains b.consoles c × (c.user ≡ Some user))
    ⊎ ((unit : UnitRow) × (unit_at b user ≡ Some unit) × (unit.kind ≡ Tsu))

-- A command typed at a console does this, and nothing else. It ends, marks or moves what it names; text is stored after
-- all that was stored before.
abbrev pub HasDone : Name → Command → BoardRows → BoardRows → Type 0
HasDone at command.DisplayUnits old new = new ≡ old
HasDone at (command.DisplayUnit name) old new = new ≡ old
HasDone at command.DisplayDevices old new = new ≡ old
HasDone at command.DisplayConsoles old new = new ≡ old
HasDone at command.DisplayReplies old new = new ≡ old
HasDone at (command.Cancel name) old new =
    UnitLeaves name.value (λ unit. (unit.kind ≢ Tsu) × (unit.cancelable ≡ true)) old new
HasDone at (command.CancelUser user) old new =
    UnitLeaves user.value (λ unit. (unit.kind ≡ Tsu) × (unit.cancelable ≡ true)) old new
HasDone at (command.Force name) old new = UnitLeaves name.value (λ unit. unit.cancelable ≡ false) old new
HasDone at (command.Start member) old new = UnitComes (record {
  name = member.value;
  kind = Stc member.value;
  cancelable = true;
  stopping = false;
  last_text = None;
}) old new
HasDone at (command.StartAs member id) old new = UnitComes (record {
  name = id.value;
  kind = Stc member.value;
  cancelable = true;
  stopping = false;
  last_text = None;
}) old new
HasDone at (command.Stop name) old new =
    UnitBecomes name.value (λ was now. (was.kind ≢ Tsu) × (now ≡ record was { stopping = true })) old new
HasDone at (command.Modify name text) old new =
    UnitBecomes name.value (λ was now. (was.kind ≢ Tsu)
    × (now ≡ record was { last_text = Some (text_value text.typed.text) })) old new
HasDone at (command.Reply id text) old new =
    Leaves (reply_at old) (reply_at new) id.value (λ reply. Unit {0})
    × (new ≡ record old {
      replies = new.replies;
      answered = old.answered ++ record { id = id.value; text = text_value text.typed.text } ∷ [];
    })
HasDone at (command.VaryDeviceOnline device) old new =
    DeviceBecomes device.value (λ was now. (was.online ≡ false) × (now ≡ record was { online = true })) old new
HasDone at (command.VaryDeviceOffline device) old new =
    DeviceBecomes device.value (λ was now. (was.online ≡ true) × (was.unit ≡ None)
    × (now ≡ record was { online = false })) old new
HasDone at (command.VaryConsoleOnline name) old new =
    ConsoleBecomes name.value (λ was now. now ≡ record was { online = true }) old new
HasDone at (command.VaryConsoleOffline name) old new = ConsoleBecomes name.value GoesOffline old new
HasDone at (command.VaryConsoleAuth name auth) old new =
    ConsoleBecomes name.value (λ was now. now ≡ record was { auth = auth.value }) old new
HasDone at (command.Mount device volume) old new =
    DeviceBecomes device.value (λ was now. (was.online ≡ true) × (was.volume ≡ None)
    × (now ≡ record was { volume = Some volume.value })) old new
HasDone at (command.Unload device) old new =
    DeviceBecomes device.value (λ was now. (is_some was.volume ≡ true) × (was.unit ≡ None)
    × (now ≡ record was { volume = None })) old new
HasDone at (command.Swap from to) old new = DevicesSwap from.value to.value old new
HasDone at (command.ResetConsole name) old new =
    ConsoleBecomes name.value (λ was now. now ≡ record was { user = None }) old new
HasDone at (command.Send text user) old new = MayBeNotified user.value old
    × (new ≡ record old {
      messages = old.messages ++ record { user = user.value; text = text_value text.typed.text } ∷ [];
    })
HasDone at (command.Log text) old new = new ≡ record old { log = old.log ++ text_value text.typed.text ∷ [] }
HasDone at command.Monitor old new = ConsoleBecomes at (λ was now. now ≡ record was { monitor = true }) old new
HasDone at command.StopMonitor old new = ConsoleBecomes at (λ was now. now ≡ record was { monitor = false }) old new
HasDone at command.Halt old new = (old.halted ≡ false) × (new ≡ record old { halted = true })
HasDone at (command.Logon id password) old new =
    ConsoleBecomes at (λ was now. (was.user ≡ None) × (now ≡ record was { user = Some id.value })) old new
HasDone at command.Logoff old new = ConsoleBecomes at
    (λ was now. (is_some was.user ≡ true) × (now ≡ record was { user = None })) old new

abbrev pub CommandsDoWhatTheySay : Type 0
CommandsDoWhatTheySay =
    (s : State) (moment : ℕ) (name text : List ℕ) (command : Command) (lines : List Line) (why : Option Rule)
    (new : State)
    → Reads text command → Step s moment (input.Command name text) (Done lines why) new
    → HasDone name command s.board new.board

-- So does an event.
abbrev pub HasHappened : Event → BoardRows → BoardRows → Type 0
HasHappened (event.JobIn name kind cancelable) old new = UnitComes (record {
  name = name;
  kind = kind;
  cancelable = cancelable;
  stopping = false;
  last_text = None;
}) old new
HasHappened (event.JobEnd name) old new = UnitLeaves name (λ unit. Unit {0}) old new
HasHappened (event.Ask id text) old new = Comes (reply_at old) (reply_at new) id (record {
  id = id;
  text = text;
}) × (new ≡ record old { replies = new.replies })
HasHappened (event.Attach device) old new = Comes (device_at old) (device_at new) device (record {
  number = device;
  online = true;
  volume = None;
  unit = None;
}) × OnlyDevices old new
HasHappened (event.Allocate device unit) old new =
    (is_some (unit_at old unit) ≡ true) × DeviceBecomes device
    (λ was now. (was.online ≡ true) × (was.unit ≡ None) × (now ≡ record was { unit = Some unit })) old new
HasHappened (event.Free device) old new =
    DeviceBecomes device (λ was now. (is_some was.unit ≡ true) × (now ≡ record was { unit = None })) old new
HasHappened event.Resume old new = new ≡ record old { halted = false }

abbrev pub EventsDoWhatTheySay : Type 0
EventsDoWhatTheySay = (s : State) (moment : ℕ) (e : Event) (lines : List Line) (why : Option Rule) (new : State)
    → Step s moment (input.Event e) (Done lines why) new → HasHappened e s.board new.board
