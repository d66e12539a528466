use Rattle.opc_machine_laws.proofs.Changing.{imports_only}
use Rattle.opc_machine_laws.proofs.laws.imports_only_where_allowed.Goals as goal

pub returns : goal.returns
returns c = imports_only
