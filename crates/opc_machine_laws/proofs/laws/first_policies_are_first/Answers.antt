use Rattle.opc_machine_laws.proofs.Taking.{first_policies}
use Rattle.opc_machine_laws.proofs.laws.first_policies_are_first.Goals as goal

pub returns : goal.returns
returns c = first_policies
