use Rattle.opc_machine_laws.proofs.Answering.{denials_answered}
use Rattle.opc_machine_laws.proofs.laws.denials_are_answered.Goals as goal

pub returns : goal.returns
returns c = denials_answered
