-- An example of a line for each resource without a name.
use Rattle.std.proofs.Common.{◌≡◌, ℕ, List, codes, Ok, refl}
use Rattle.std.specs.Str.{chars}
use Rattle.opc_names.specs.declared.auth.Auth.TheVariants.{All}
use Rattle.opc_reader_commands.specs.declared.command.Operand.{Operand}
use Rattle.opc_reader_commands.specs.declared.command.Text.{Text}
use Rattle.opc_reader_commands.specs.declared.command.Command.{Command}
use Rattle.opc_reader_commands.specs.declared.command.Command.TheVariants.{
  DisplayUnits,
  DisplayDevices,
  DisplayConsoles,
  DisplayReplies,
  Reply,
  VaryDeviceOnline,
  Mount,
  Unload,
  Swap,
  VaryConsoleOnline,
  VaryConsoleAuth,
  ResetConsole,
  Send,
  Log,
  Monitor,
  StopMonitor,
  Halt,
}
use Rattle.opc_reader_commands.specs.Stretches.{Stretch, word}
use Rattle.opc_reader.specs.Reading.{
  any_text,
  authority,
  command,
  display,
  last_name,
  log,
  mount,
  name,
  number_prefix,
  quoted_prefix,
  quoted_text,
  reading,
  reply,
  reset,
  send,
  swap,
  unload,
  vary,
  vary_console,
  vary_device,
}

abbrev pub typed : List ℕ → ℕ → Stretch
typed text from = record { text = text; from = from }

abbrev pub named : List ℕ → ℕ → Operand (List ℕ)
named value from = record { value = value; typed = typed value from }

abbrev pub text : List ℕ → ℕ → Text
text said from = record { typed = typed said from }

abbrev pub a_reply : Command
a_reply = Reply (record { value = 7; typed = typed (codes "7") 2 }) (text (codes "X") 4)

abbrev pub an_auth : Command
an_auth = VaryConsoleAuth (named (codes "C1") 5) (record { value = All; typed = typed (codes "ALL") 14 })

pub record Examples : Type 0 where
  pub units : reading (codes "D A,L") ≡ Ok DisplayUnits
  pub devices : reading (codes "D U") ≡ Ok DisplayDevices
  pub consoles : reading (codes "D C") ≡ Ok DisplayConsoles
  pub replies : reading (codes "D R") ≡ Ok DisplayReplies
  pub reply : reading (codes "R 7,X") ≡ Ok a_reply
  pub device : reading (codes "V 0A80,ONLINE") ≡ Ok (VaryDeviceOnline (named (codes "0A80") 2))
  pub mount : reading (codes "M 0A80,VOL=V1") ≡ Ok (Mount (named (codes "0A80") 2) (named (codes "V1") 11))
  pub unload : reading (codes "U 0A80") ≡ Ok (Unload (named (codes "0A80") 2))
  pub swap : reading (codes "G 0A80,0A81") ≡ Ok (Swap (named (codes "0A80") 2) (named (codes "0A81") 7))
  pub console : reading (codes "V CN(C1),ONLINE") ≡ Ok (VaryConsoleOnline (named (codes "C1") 5))
  pub auth : reading (codes "V CN(C1),AUTH=ALL") ≡ Ok an_auth
  pub reset : reading (codes "E CN(C1)") ≡ Ok (ResetConsole (named (codes "C1") 5))
  pub send : reading (codes "SE 'X',USER=(A)") ≡ Ok (Send (text (codes "'X'") 3) (named (codes "A") 13))
  pub log : reading (codes "L 'X'") ≡ Ok (Log (text (codes "'X'") 2))
  pub monitor : reading (codes "MN JOBNAMES") ≡ Ok Monitor
  pub stop_monitor : reading (codes "PM JOBNAMES") ≡ Ok StopMonitor
  pub halt : reading (codes "Z EOD") ≡ Ok Halt

pub examples : Examples
unfolding command display reply vary_device vary_console vary mount unload swap reset send log name last_name
    number_prefix authority quoted_text quoted_prefix any_text word chars
examples = record {
  units = refl;
  devices = refl;
  consoles = refl;
  replies = refl;
  reply = refl;
  device = refl;
  mount = refl;
  unload = refl;
  swap = refl;
  console = refl;
  auth = refl;
  reset = refl;
  send = refl;
  log = refl;
  monitor = refl;
  stop_monitor = refl;
  halt = refl;
}
