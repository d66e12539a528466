use Rattle.opc_machine_laws.proofs.Changing.{imports_wherever}
use Rattle.opc_machine_laws.proofs.laws.imports_wherever_allowed.Goals as goal

pub returns : goal.returns
returns c = imports_wherever
