-- How few rows are enough.
use Rattle.std.proofs.Common.{◌≡◌, ℕ, Bool, true, false, not, ◌&&◌, ◌||◌, ◌==◌, Some, refl, ap, ◌∙◌, arith}
use Rattle.std.specs.List.{AllByRecursion}
use Rattle.std.proofs.lemmas.Bool.Decides.{nat_tests}
use Rattle.opc_reader_commands.specs.declared.command.Command.{Command}
use Rattle.opc_reader_commands.specs.declared.command.Command.TheVariants as command
use Rattle.opc_rows.proofs.Filtered.{any_seen, found_each}
use Rattle.opc_rows.proofs.Orders.{all_weaker}
use Rattle.opc_board.specs.declared.board.BoardRows.{BoardRows}
use Rattle.opc_board.specs.declared.event.Event.{Event}
use Rattle.opc_board.specs.declared.event.Event.TheVariants as event
use Rattle.opc_board.specs.declared.rows.ConsoleRow.{ConsoleRow}
use Rattle.opc_board.specs.declared.rows.DeviceRow.{DeviceRow}
use Rattle.opc_board.specs.Enough.{FewRowsSuffice, addressed, enough, enough_for_event, has, leaving, varying}
use Rattle.opc_board.specs.Invariants.{Name, console_at, console_before, device_at, device_before, earlier, is, is_master}
use Rattle.opc_board.specs.Replies.{is_on}
use Rattle.opc_board.specs.Footprint.{IsInOrder, IsFootprintOf, IsFootprintOfEvent, HasLeaving, HasVaried, only, has_console_of, has_device_of}
use Rattle.opc_board.specs.Units.{is_holder}
use Rattle.opc_board.proofs.Kept.{apart_names}
use Rattle.opc_board.proofs.Names.{is_itself, is_mirrored}

number_itself : (n : ℕ) → (n == n) ≡ true
number_itself n = grind (arith, nat_tests)

or_first : (a b : Bool) → a ≡ true → a || b ≡ true
or_first a b here = ap (λ c. c || b) here

or_second : (a b : Bool) → b ≡ true → a || b ≡ true
or_second true b here = refl
or_second false b here = here

and_first : (a b : Bool) → a && b ≡ true → a ≡ true
and_first true b both = refl
and_first false b both = absurd (cc)

-- of two rows in order neither has the other's name
apart : (x y : Name) → earlier x y ≡ true → is x y ≡ false
apart x y after = is_mirrored y x (apart_names x y x (is_itself x) after)

module _ (b : BoardRows) (order : IsInOrder b) where
  devices_found : AllByRecursion (λ d. device_at b d.number ≡ Some d) b.devices
  devices_found = found_each (λ (x y : DeviceRow). is x.number y.number) device_before (λ d. is_itself d.number)
      (λ x y after. apart x.number y.number after) b.devices order.devices

  consoles_found : AllByRecursion (λ c. console_at b c.name ≡ Some c) b.consoles
  consoles_found = found_each (λ (x y : ConsoleRow). is x.name y.name) console_before (λ c. is_itself c.name)
      (λ x y after. apart x.name y.name after) b.consoles order.consoles

  leaving_seen : (name : Name) → HasLeaving (leaving b name) b name
  leaving_seen name = (
    is_itself name,
    all_weaker (λ d. device_at b d.number ≡ Some d)
        (λ d. is_holder name d.unit ≡ true → has_device_of (leaving b name) d ≡ true)
        (λ d found held. ap (has (λ (e : DeviceRow). is_holder name e.unit)) found ∙ held) b.devices devices_found,
  )

  varied_seen : (name : Name) → HasVaried (varying b name) b name
  varied_seen name = (
    or_first (is name name) (has is_master (console_at b name)) (is_itself name),
    any_seen (λ c. is_master c && not (is c.name name)) (has_console_of (varying b name)) b.consoles
        (all_weaker (λ c. console_at b c.name ≡ Some c)
        (λ c. is_master c && not (is c.name name) ≡ true → has_console_of (varying b name) c ≡ true)
        (λ c found other. or_second (is c.name name) (has is_master (console_at b c.name))
        (ap (has is_master) found ∙ and_first (is_master c) (not (is c.name name)) other)) b.consoles
        consoles_found),
  )

  addressed_seen : (user : Name) → (is_on user (only (addressed b user) b) ≡ is_on user b) × ((addressed b user).units user ≡ true)
  addressed_seen user = (
    any_seen (λ c. is_holder user c.user) (has_console_of (addressed b user)) b.consoles
        (all_weaker (λ c. console_at b c.name ≡ Some c)
        (λ c. is_holder user c.user ≡ true → has_console_of (addressed b user) c ≡ true)
        (λ c found on. ap (has (λ (e : ConsoleRow). is_holder user e.user)) found ∙ on) b.consoles consoles_found),
    is_itself user,
  )

commands_see : (b : BoardRows) → IsInOrder b → (command : Command) (console : Name) → IsFootprintOf (enough b command console) b command console
commands_see b order command.DisplayUnits console = λ name. refl
commands_see b order command.DisplayDevices console = λ number. refl
commands_see b order command.DisplayConsoles console = λ name. refl
commands_see b order command.DisplayReplies console = λ id. refl
commands_see b order (command.DisplayUnit name) console = is_itself name.value
commands_see b order (command.Cancel name) console = leaving_seen b order name.value
commands_see b order (command.CancelUser user) console = leaving_seen b order user.value
commands_see b order (command.Force name) console = leaving_seen b order name.value
commands_see b order (command.Start member) console = is_itself member.value
commands_see b order (command.StartAs member id) console = is_itself id.value
commands_see b order (command.Stop name) console = is_itself name.value
commands_see b order (command.Modify name text) console = is_itself name.value
commands_see b order (command.Reply id text) console = number_itself id.value
commands_see b order (command.VaryDeviceOnline device) console = is_itself device.value
commands_see b order (command.VaryDeviceOffline device) console = is_itself device.value
commands_see b order (command.VaryConsoleOnline name) console = varied_seen b order name.value
commands_see b order (command.VaryConsoleOffline name) console = varied_seen b order name.value
commands_see b order (command.VaryConsoleAuth name auth) console = varied_seen b order name.value
commands_see b order (command.Mount device volume) console = is_itself device.value
commands_see b order (command.Unload device) console = is_itself device.value
commands_see b order (command.Swap from to) console = (
  or_first (is from.value from.value) (is from.value to.value) (is_itself from.value),
  or_second (is to.value from.value) (is to.value to.value) (is_itself to.value),
)
commands_see b order (command.ResetConsole name) console = is_itself name.value
commands_see b order (command.Send text user) console = addressed_seen b order user.value
commands_see b order (command.Log text) console = tt
commands_see b order command.Monitor console = is_itself console
commands_see b order command.StopMonitor console = is_itself console
commands_see b order command.Halt console = tt
commands_see b order (command.Logon user password) console = tt
commands_see b order command.Logoff console = tt

events_see : (b : BoardRows) → IsInOrder b → (event : Event) → IsFootprintOfEvent (enough_for_event b event) b event
events_see b order (event.JobIn name kind cancelable) = is_itself name
events_see b order (event.JobEnd name) = leaving_seen b order name
events_see b order (event.Ask id text) = number_itself id
events_see b order (event.Attach device) = is_itself device
events_see b order (event.Allocate device unit) = (is_itself device, is_itself unit)
events_see b order (event.Free device) = is_itself device
events_see b order event.Resume = tt

pub few_suffice : FewRowsSuffice
few_suffice b order = (commands_see b order, events_see b order)
