-- Worked examples of names.
use Rattle.std.proofs.Common.{refl}
use Rattle.std.specs.Fmt.{digits}
use Rattle.std.specs.Str.{chars}
use Rattle.opc_machine_laws.specs.NameLaws.{DeviceNamesAreSo, EntryIdsAreSo, NameFaultsReadSo, NamesAreSo, PlainNamesAreSo, QualifiedNamesAreSo}

plain : PlainNamesAreSo
unfolding chars
plain = record {
  users = (refl, (refl, (refl, (refl, tt))));
  units = (refl, (refl, (refl, (refl, tt))));
  groups = (refl, (refl, (refl, tt)));
  consoles = (refl, (refl, (refl, tt)));
  no_user = refl;
  no_unit = refl;
  no_group = refl;
  no_console = refl;
  short_console = refl;
  long_user = refl;
  long_unit = refl;
  long_group = refl;
  long_console = refl;
  small_letter = refl;
  underscore = refl;
  hyphen = refl;
  period = refl;
  star = refl;
  digit_in_group = refl;
  digit_in_console = refl;
}

devices : DeviceNamesAreSo
unfolding chars
devices = record {
  volumes = (refl, (refl, (refl, tt)));
  devices = (refl, (refl, (refl, tt)));
  no_volume = refl;
  long_volume = refl;
  bad_volume = refl;
  short_device = refl;
  long_device = refl;
  bad_device = refl;
  small_device = refl;
}

qualified : QualifiedNamesAreSo
unfolding chars
qualified = record {
  resources = (refl, (refl, (refl, (refl, tt))));
  patterns = (refl, (refl, (refl, (refl, (refl, (refl, (refl, (refl, tt))))))));
  no_resource = refl;
  no_pattern = refl;
  long_resource = refl;
  long_pattern = refl;
  generic_resource = refl;
  single_resource = refl;
  small_pattern = refl;
  first_qualifier = refl;
  middle_qualifier = refl;
  last_qualifier = refl;
  inner_star = refl;
  stars_and_more = refl;
  three_stars = refl;
}

entries : EntryIdsAreSo
unfolding chars
entries = record {
  everyone = refl;
  id = refl;
  nobody = refl;
  pattern = refl;
  read_everyone = refl;
  read_id = refl;
  shown_everyone = refl;
  shown_id = refl;
}

faults : NameFaultsReadSo
unfolding digits
faults = record { empty = refl; short = refl; long = refl; character = refl; qualifier = refl }

pub named_so : NamesAreSo
named_so = record { plain = plain; devices = devices; qualified = qualified; entries = entries; faults = faults }
