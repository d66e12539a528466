use Rattle.opc_machine_laws.proofs.Displaying.{are_about}
use Rattle.opc_machine_laws.proofs.laws.lines_are_about_what_they_list.Goals as goal

pub returns : goal.returns
returns c = are_about
