use Rattle.opc_machine_laws.proofs.Acting.{wherever}
use Rattle.opc_machine_laws.proofs.laws.acts_wherever_allowed.Goals as goal

pub returns : goal.returns
returns c = wherever
