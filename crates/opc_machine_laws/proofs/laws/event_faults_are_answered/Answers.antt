use Rattle.opc_machine_laws.proofs.Leaving.{event_faults}
use Rattle.opc_machine_laws.proofs.laws.event_faults_are_answered.Goals as goal

pub returns : goal.returns
returns c = event_faults
