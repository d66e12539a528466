use Rattle.opc_machine_laws.proofs.Changing.{repeats_wherever}
use Rattle.opc_machine_laws.proofs.laws.repeats_wherever_allowed.Goals as goal

pub returns : goal.returns
returns c = repeats_wherever
