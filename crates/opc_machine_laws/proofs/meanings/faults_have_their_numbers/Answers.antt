use Rattle.opc_machine_laws.proofs.Numbering.{numbered}
use Rattle.opc_machine_laws.proofs.meanings.faults_have_their_numbers.Goals as goal

pub returns : goal.returns
returns c = numbered
