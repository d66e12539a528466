-- Each command is read from its parts, and nothing else is.
use Rattle.std.proofs.Common.{◌≡◌, Some, refl, codes}
use Rattle.opc_reader.specs.declared.verb.Verb.{Verb}
use Rattle.opc_reader.specs.declared.verb.Verb.TheVariants as verb
use Rattle.opc_reader_commands.specs.declared.command.Command.{Command}
use Rattle.opc_reader_commands.specs.declared.command.Command.TheVariants.{
  DisplayUnits,
  DisplayUnit,
  DisplayDevices,
  DisplayConsoles,
  DisplayReplies,
  Cancel,
  CancelUser,
  Force,
  Start,
  StartAs,
  Stop,
  Modify,
  Reply,
  VaryDeviceOnline,
  VaryDeviceOffline,
  VaryConsoleOnline,
  VaryConsoleOffline,
  VaryConsoleAuth,
  Mount,
  Unload,
  Swap,
  ResetConsole,
  Send,
  Log,
  Monitor,
  StopMonitor,
  Halt,
  Logon,
  Logoff,
}
use Rattle.opc_reader.specs.Forms.{verb_of, parts, IsMeant, AreTyped}
use Rattle.opc_reader.specs.Reading.{command}
use Rattle.opc_reader_commands.specs.Stretches.{Stretch}
use Rattle.opc_reader.proofs.Cancels
use Rattle.opc_reader.proofs.Devices
use Rattle.opc_reader.proofs.Displays
use Rattle.opc_reader.proofs.Messages
use Rattle.opc_reader.proofs.Resets
use Rattle.opc_reader.proofs.Starts
use Rattle.opc_reader.proofs.Steps.{fixed_read, fixed_found, only_read, only_found, Gives, gives}
use Rattle.opc_reader.proofs.Users
use Rattle.opc_reader.proofs.Varies

-- each command is read from its parts
pub complete : (c : Command) (s : Stretch) → AreTyped (parts c) s → IsMeant c → command (verb_of c) s ≡ Some c
unfolding command
complete DisplayUnits s t m = Displays.units s t
complete (DisplayUnit name) s t m = Displays.unit name s t m
complete DisplayDevices s t m = Displays.devices s t
complete DisplayConsoles s t m = Displays.consoles s t
complete DisplayReplies s t m = Displays.replies s t
complete (Cancel name) s t m = Cancels.of_unit name s t
complete (CancelUser user) s t m = Cancels.of_user user s t
complete (Force name) s t m = Cancels.forced name s t
complete (Start member) s t m = Starts.alone member s t
complete (StartAs member id) s t m = Starts.named member id s t
complete (Stop name) s t m = Cancels.stopped name s t
complete (Modify name text) s t m = Messages.modified name text s t
complete (Reply id text) s t m = Messages.replied id text s t
complete (VaryDeviceOnline device) s t m = Varies.device_online device s t
complete (VaryDeviceOffline device) s t m = Varies.device_offline device s t
complete (VaryConsoleOnline console) s t m = Varies.console_online console s t
complete (VaryConsoleOffline console) s t m = Varies.console_offline console s t
complete (VaryConsoleAuth console auth) s t m = Varies.console_auth console auth s t
complete (Mount device volume) s t m = Devices.mounted device volume s t
complete (Unload device) s t m = Devices.unloaded device s t
complete (Swap from to) s t m = Devices.swapped from to s t
complete (ResetConsole console) s t m = Resets.of_console console s t
complete (Send text user) s t m = Messages.sent text user s t
complete (Log text) s t m = Messages.logged text s t
complete Monitor s t m = fixed_read (codes "JOBNAMES") Monitor s t
complete StopMonitor s t m = fixed_read (codes "JOBNAMES") StopMonitor s t
complete Halt s t m = fixed_read (codes "EOD") Halt s t
complete (Logon user password) s t m = Users.logged_on user password s t
complete Logoff s t m = only_read Logoff s t

-- and nothing else is
pub sound : (v : Verb) (s : Stretch) (c : Command) → command v s ≡ Some c → Gives v s c
unfolding command
sound verb.Display s c h = Displays.display_found s c h
sound verb.Cancel s c h = Cancels.cancel_found s c h
sound verb.Force s c h = Cancels.force_found s c h
sound verb.Start s c h = Starts.start_found s c h
sound verb.Stop s c h = Cancels.stop_found s c h
sound verb.Modify s c h = Messages.modify_found s c h
sound verb.Reply s c h = Messages.reply_found s c h
sound verb.Vary s c h = Varies.vary_found s c h
sound verb.Mount s c h = Devices.mount_found s c h
sound verb.Unload s c h = Devices.unload_found s c h
sound verb.Swap s c h = Devices.swap_found s c h
sound verb.Reset s c h = Resets.reset_found s c h
sound verb.Send s c h = Messages.send_found s c h
sound verb.Log s c h = Messages.log_found s c h
sound verb.Monitor s c h = let found = fixed_found (codes "JOBNAMES") Monitor c s h in gives verb.Monitor s Monitor c found.0 (record {
  verb = refl;
  typed = found.1;
  meant = tt;
})
sound verb.StopMonitor s c h = let found = fixed_found (codes "JOBNAMES") StopMonitor c s h in gives verb.StopMonitor s StopMonitor c found.0 (record {
  verb = refl;
  typed = found.1;
  meant = tt;
})
sound verb.Halt s c h = let found = fixed_found (codes "EOD") Halt c s h in gives verb.Halt s Halt c found.0 (record {
  verb = refl;
  typed = found.1;
  meant = tt;
})
sound verb.Logon s c h = Users.logon_found s c h
sound verb.Logoff s c h = let end = only_found Logoff c s h in gives verb.Logoff s Logoff c end.0 (record { verb = refl; typed = end.1; meant = tt })
