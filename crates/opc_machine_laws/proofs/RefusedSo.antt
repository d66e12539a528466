-- Worked examples of lines that are refused.
use Rattle.std.proofs.Common.{refl}
use Rattle.std.specs.Fmt.{digits}
use Rattle.std.specs.Str.{chars}
use Rattle.opc_reader.specs.Reading.{
  any_text,
  authority,
  cancel,
  command,
  display,
  last_name,
  log,
  modify,
  mount,
  name,
  number_prefix,
  quoted_text,
  reply,
  unload,
  vary,
  vary_console,
}
use Rattle.opc_reader_commands.specs.Stretches.{word}
use Rattle.opc_machine_laws.specs.BadLineLaws.{LineFaultsReadSo, LinesAreRefusedSo}

pub refused_so : LinesAreRefusedSo
unfolding command display cancel modify reply vary_console vary mount unload log name last_name number_prefix authority
    quoted_text any_text word chars
refused_so = record {
  nothing = refl;
  spaces = refl;
  as_long_as_may_be = refl;
  too_long = refl;
  tab = refl;
  delete = refl;
  character_first = refl;
  verb = refl;
  part_of_a_verb = refl;
  verb_first = refl;
  log_quote = refl;
  send_quote = refl;
  modify_quote = refl;
  reply_quote = refl;
  quote_first = refl;
  no_operand = refl;
  more_operands = refl;
  spaces_around = refl;
  long_unit = refl;
  short_console = refl;
  long_volume = refl;
  bad_device = refl;
  three_digits = refl;
  no_text = refl;
  text_without_quotes = refl;
  authority = refl;
}

pub faults_read : LineFaultsReadSo
unfolding digits
faults_read = record { empty = refl; long = refl; character = refl; verb = refl; operand = refl; quote = refl }
