use Rattle.opc_machine_laws.proofs.Changing.{profiles_wherever}
use Rattle.opc_machine_laws.proofs.laws.lists_profiles_wherever_asked.Goals as goal

pub returns : goal.returns
returns c = profiles_wherever
