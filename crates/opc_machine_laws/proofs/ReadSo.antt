-- A worked example of each command.
use Rattle.std.proofs.Common.{refl}
use Rattle.std.specs.Str.{chars}
use Rattle.opc_reader.specs.Reading.{
  any_text,
  authority,
  cancel,
  command,
  display,
  force,
  last_name,
  log,
  logon,
  modify,
  mount,
  name,
  number_prefix,
  quoted_prefix,
  quoted_text,
  reply,
  reset,
  send,
  start,
  stop,
  swap,
  unload,
  vary,
  vary_console,
  vary_device,
}
use Rattle.opc_reader_commands.specs.Stretches.{word}
use Rattle.opc_machine_laws.specs.ReadingLaws.{LinesAreReadSo}

pub read_so : LinesAreReadSo
unfolding command display cancel force start stop modify reply vary_device vary_console vary mount unload swap reset
    send log logon name last_name number_prefix authority quoted_text quoted_prefix any_text word chars
read_so = record {
  units = refl;
  unit = refl;
  devices = refl;
  consoles = refl;
  replies = refl;
  cancel = refl;
  cancel_user = refl;
  force = refl;
  start = refl;
  start_as = refl;
  stop = refl;
  modify = refl;
  reply = refl;
  device_on = refl;
  device_off = refl;
  console_on = refl;
  console_off = refl;
  console_auth = refl;
  mount = refl;
  unload = refl;
  swap = refl;
  reset = refl;
  send = refl;
  log = refl;
  monitor = refl;
  stop_monitor = refl;
  halt = refl;
  logon = refl;
  logoff = refl;
}
