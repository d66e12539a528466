use Rattle.opc_machine_laws.proofs.Granting.{imports_of_special}
use Rattle.opc_machine_laws.proofs.laws.imports_are_of_special.Goals as goal

pub returns : goal.returns
returns c = imports_of_special
