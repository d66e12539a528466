use Rattle.opc_machine_laws.proofs.Changing.{administers_wherever}
use Rattle.opc_machine_laws.proofs.laws.administers_wherever_allowed.Goals as goal

pub returns : goal.returns
returns c = administers_wherever
