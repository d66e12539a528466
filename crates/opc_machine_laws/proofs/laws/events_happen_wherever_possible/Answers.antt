use Rattle.opc_machine_laws.proofs.Leaving.{events_wherever}
use Rattle.opc_machine_laws.proofs.laws.events_happen_wherever_possible.Goals as goal

pub returns : goal.returns
returns c = events_wherever
