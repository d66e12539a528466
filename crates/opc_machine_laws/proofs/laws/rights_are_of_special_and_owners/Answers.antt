use Rattle.opc_machine_laws.proofs.Granting.{rights_are}
use Rattle.opc_machine_laws.proofs.laws.rights_are_of_special_and_owners.Goals as goal

pub returns : goal.returns
returns c = rights_are
