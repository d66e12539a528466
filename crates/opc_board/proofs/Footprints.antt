-- A command or an event does on its footprint what it does on the board.
use Rattle.std.proofs.Common.{true, false, [], Some, None, map, refl, ap}
use Rattle.opc_reader_commands.specs.declared.command.Command.TheVariants as command
use Rattle.opc_reader_commands.specs.Quotes.{text_value}
use Rattle.opc_board.specs.declared.event.Event.TheVariants as event
use Rattle.opc_board.specs.declared.rows.UnitKind.TheVariants.{Stc}
use Rattle.opc_board.specs.Consoles.{put_offline}
use Rattle.opc_board.specs.Footprint.{
  CommandsAreLocal,
  EventsAreLocal,
  LogoffsAreLocal,
  LogonsAreLocal,
  has_console_of,
  has_device_of,
  has_reply_of,
  has_unit_of,
}
use Rattle.opc_board.specs.Texts.{console_line, device_line, lines_of, reply_line, unit_line}
use Rattle.opc_rows.proofs.Filtered.{all_seen}
use Rattle.opc_board.proofs.Agreeing.{unit_seen}
use Rattle.opc_board.proofs.ConsoleFootprints.{varied_local, offline_named, reset_local, console_changes}
use Rattle.opc_board.proofs.DeviceFootprints.{
  vary_online_local,
  vary_offline_local,
  mount_local,
  unload_local,
  free_local,
  allocate_local,
  swap_local,
  attach_local,
}
use Rattle.opc_board.proofs.ReplyFootprints.{reply_local, ask_local, send_local, display, halt_local}
use Rattle.opc_board.proofs.UnitFootprints.{cancel_local, cancel_user_local, force_local, job_end_local, job_in_local, stop_local, modify_local}

pub commands : CommandsAreLocal
commands footprint b command.DisplayUnits console order sees =
    display footprint b _ _ order (ap (map unit_line) (all_seen (has_unit_of footprint) (λ u. sees u.name) b.units))
commands footprint b (command.DisplayUnit name) console order sees = display footprint b _ _ order (ap lines_of (unit_seen footprint b name.value sees))
commands footprint b command.DisplayDevices console order sees =
    display footprint b _ _ order (ap (map device_line)
    (all_seen (has_device_of footprint) (λ d. sees d.number) b.devices))
commands footprint b command.DisplayConsoles console order sees =
    display footprint b _ _ order (ap (map console_line)
    (all_seen (has_console_of footprint) (λ c. sees c.name) b.consoles))
commands footprint b command.DisplayReplies console order sees =
    display footprint b _ _ order (ap (map (λ r. reply_line r.id r.text))
    (all_seen (has_reply_of footprint) (λ r. sees r.id) b.replies))
commands footprint b (command.Cancel name) console order sees = cancel_local footprint name.value b order sees
commands footprint b (command.CancelUser user) console order sees = cancel_user_local footprint user.value b order sees
commands footprint b (command.Force name) console order sees = force_local footprint name.value b order sees
commands footprint b (command.Start member) console order sees = job_in_local footprint member.value (Stc member.value) true b order sees
commands footprint b (command.StartAs member id) console order sees = job_in_local footprint id.value (Stc member.value) true b order sees
commands footprint b (command.Stop name) console order sees = stop_local footprint name.value b order sees
commands footprint b (command.Modify name text) console order sees = modify_local footprint name.value (text_value text.typed.text) b order sees
commands footprint b (command.Reply id text) console order sees = reply_local footprint id.value (text_value text.typed.text) b order sees
commands footprint b (command.VaryDeviceOnline device) console order sees = vary_online_local footprint device.value b order sees
commands footprint b (command.VaryDeviceOffline device) console order sees = vary_offline_local footprint device.value b order sees
commands footprint b (command.VaryConsoleOnline name) console order sees =
    varied_local footprint name.value (λ c. record c { online = true }) b (λ c. refl) order sees
commands footprint b (command.VaryConsoleOffline name) console order sees = varied_local footprint name.value put_offline b (offline_named footprint) order sees
commands footprint b (command.VaryConsoleAuth name auth) console order sees =
    varied_local footprint name.value (λ c. record c { auth = auth.value }) b (λ c. refl) order sees
commands footprint b (command.Mount device volume) console order sees = mount_local footprint device.value volume.value b order sees
commands footprint b (command.Unload device) console order sees = unload_local footprint device.value b order sees
commands footprint b (command.Swap from to) console order sees = swap_local footprint from.value to.value b order sees.0 sees.1
commands footprint b (command.ResetConsole name) console order sees = reset_local footprint name.value b order sees
commands footprint b (command.Send text user) console order sees = send_local footprint user.value (text_value text.typed.text) b order sees.0 sees.1
commands footprint b (command.Log text) console order sees = (
  refl,
  (
    record {
      units = order.units;
      devices = order.devices;
      consoles = order.consoles;
      replies = order.replies;
    },
    record { units = refl; devices = refl; consoles = refl; replies = refl },
  ),
)
commands footprint b command.Monitor console order sees = console_changes footprint console (λ c. record c { monitor = true }) b (λ c. refl) order sees
commands footprint b command.StopMonitor console order sees = console_changes footprint console (λ c. record c { monitor = false }) b (λ c. refl) order sees
commands footprint b command.Halt console order sees = halt_local footprint b order
commands footprint b (command.Logon user password) console order sees = display footprint b [] [] order refl
commands footprint b command.Logoff console order sees = display footprint b [] [] order refl

pub events : EventsAreLocal
events footprint b (event.JobIn name kind cancelable) order sees = job_in_local footprint name kind cancelable b order sees
events footprint b (event.JobEnd name) order sees = job_end_local footprint name b order sees
events footprint b (event.Ask id text) order sees = ask_local footprint id text b order sees
events footprint b (event.Attach device) order sees = attach_local footprint device b order sees
events footprint b (event.Allocate device unit) order sees = allocate_local footprint device unit b order sees.0 sees.1
events footprint b (event.Free device) order sees = free_local footprint device b order sees
events footprint b event.Resume order sees = (
  refl,
  (
    record {
      units = order.units;
      devices = order.devices;
      consoles = order.consoles;
      replies = order.replies;
    },
    record { units = refl; devices = refl; consoles = refl; replies = refl },
  ),
)

pub logons : LogonsAreLocal
logons footprint b name user order sees = console_changes footprint name (λ c. record c { user = Some user }) b (λ c. refl) order sees

pub logoffs : LogoffsAreLocal
logoffs footprint b name order sees = console_changes footprint name (λ c. record c { user = None }) b (λ c. refl) order sees
