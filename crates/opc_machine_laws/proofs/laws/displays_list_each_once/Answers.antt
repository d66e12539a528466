use Rattle.opc_machine_laws.proofs.Displaying.{each_console_once, each_unit_once, the_unit_once}
use Rattle.opc_machine_laws.proofs.laws.displays_list_each_once.Goals as goal

pub returns : goal.returns
returns c = record { units = each_unit_once; unit = the_unit_once; consoles = each_console_once }
