use Rattle.opc_machine_laws.proofs.Answering.{faults_answered}
use Rattle.opc_machine_laws.proofs.laws.board_faults_are_answered.Goals as goal

pub returns : goal.returns
returns c = faults_answered
