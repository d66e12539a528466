-- How lines are read, for those who type them: a worked example of each command.
use Rattle.std.specs.Prelude.{◌≡◌, ℕ, List, Ok, codes}
use Rattle.opc_names.specs.declared.auth.Auth.TheVariants.{SysIo}
use Rattle.opc_reader_commands.specs.declared.command.Command.{Command}
use Rattle.opc_reader_commands.specs.declared.command.Command.TheVariants.{
  Cancel,
  CancelUser,
  DisplayConsoles,
  DisplayDevices,
  DisplayReplies,
  DisplayUnit,
  DisplayUnits,
  Force,
  Halt,
  Log,
  Logoff,
  Logon,
  Modify,
  Monitor,
  Mount,
  Reply,
  ResetConsole,
  Send,
  Start,
  StartAs,
  Stop,
  StopMonitor,
  Swap,
  Unload,
  VaryConsoleAuth,
  VaryConsoleOffline,
  VaryConsoleOnline,
  VaryDeviceOffline,
  VaryDeviceOnline,
}
use Rattle.opc_reader_commands.specs.declared.command.Operand.{Operand}
use Rattle.opc_reader_commands.specs.declared.command.Text.{Text}
use Rattle.opc_reader.specs.Reading.{reading}
use Rattle.opc_reader_commands.specs.Stretches.{Stretch}

-- what was typed, and at which place of the line
abbrev pub typed : List ℕ → ℕ → Stretch
typed text from = record { text = text; from = from }

abbrev pub name : List ℕ → List ℕ → ℕ → Operand (List ℕ)
name value text from = record { value = value; typed = typed text from }

abbrev pub text : List ℕ → ℕ → Text
text said from = record { typed = typed said from }

abbrev pub IsReadAs : List ℕ → Command → Type 0
IsReadAs line command = reading line ≡ Ok command

pub record LinesAreReadSo : Type 0 where
  pub units : IsReadAs (codes "D A,L") DisplayUnits
  pub unit : IsReadAs (codes "d a,pay1") (DisplayUnit (name (codes "PAY1") (codes "pay1") 4))
  pub devices : IsReadAs (codes "D U") DisplayDevices
  pub consoles : IsReadAs (codes "display c") DisplayConsoles
  pub replies : IsReadAs (codes "D R") DisplayReplies
  pub cancel : IsReadAs (codes "C PAY1") (Cancel (name (codes "PAY1") (codes "PAY1") 2))
  pub cancel_user : IsReadAs (codes "C U=ANNA") (CancelUser (name (codes "ANNA") (codes "ANNA") 4))
  pub force : IsReadAs (codes "FORCE PAY1") (Force (name (codes "PAY1") (codes "PAY1") 6))
  pub start : IsReadAs (codes "S JES2") (Start (name (codes "JES2") (codes "JES2") 2))
  pub start_as : IsReadAs (codes "S JES2.J1")
      (StartAs (name (codes "JES2") (codes "JES2") 2) (name (codes "J1") (codes "J1") 7))
  pub stop : IsReadAs (codes "P JES2") (Stop (name (codes "JES2") (codes "JES2") 2))
  pub modify : IsReadAs (codes "F JES2,stop it")
      (Modify (name (codes "JES2") (codes "JES2") 2) (text (codes "stop it") 7))
  pub reply : IsReadAs (codes "R 7,yes") (Reply (record {
    value = 7;
    typed = typed (codes "7") 2;
  }) (text (codes "yes") 4))
  pub device_on : IsReadAs (codes "V 0A80,ONLINE") (VaryDeviceOnline (name (codes "0A80") (codes "0A80") 2))
  pub device_off : IsReadAs (codes "V 0A80,OFFLINE") (VaryDeviceOffline (name (codes "0A80") (codes "0A80") 2))
  pub console_on : IsReadAs (codes "V CN(C1),ONLINE") (VaryConsoleOnline (name (codes "C1") (codes "C1") 5))
  pub console_off : IsReadAs (codes "V CN(C1),OFFLINE") (VaryConsoleOffline (name (codes "C1") (codes "C1") 5))
  pub console_auth : IsReadAs (codes "V CN(C1),AUTH=(IO,SYS)")
      (VaryConsoleAuth (name (codes "C1") (codes "C1") 5) (record {
        value = SysIo;
        typed = typed (codes "(IO,SYS)") 14;
      }))
  pub mount : IsReadAs (codes "M 0A80,VOL=VOL1")
      (Mount (name (codes "0A80") (codes "0A80") 2) (name (codes "VOL1") (codes "VOL1") 11))
  pub unload : IsReadAs (codes "U 0A80") (Unload (name (codes "0A80") (codes "0A80") 2))
  pub swap : IsReadAs (codes "G 0A80,0A81")
      (Swap (name (codes "0A80") (codes "0A80") 2) (name (codes "0A81") (codes "0A81") 7))
  pub reset : IsReadAs (codes "E CN(C1)") (ResetConsole (name (codes "C1") (codes "C1") 5))
  pub send : IsReadAs (codes "SE 'hello',USER=(ANNA)")
      (Send (text (codes "'hello'") 3) (name (codes "ANNA") (codes "ANNA") 17))
  pub log : IsReadAs (codes "L 'hello'") (Log (text (codes "'hello'") 2))
  pub monitor : IsReadAs (codes "MN JOBNAMES") Monitor
  pub stop_monitor : IsReadAs (codes "PM JOBNAMES") StopMonitor
  pub halt : IsReadAs (codes " Z  EOD ") Halt
  pub logon : IsReadAs (codes "LOGON ANNA,SECRET")
      (Logon (name (codes "ANNA") (codes "ANNA") 6) (name (codes "SECRET") (codes "SECRET") 11))
  pub logoff : IsReadAs (codes "LOGOFF") Logoff
