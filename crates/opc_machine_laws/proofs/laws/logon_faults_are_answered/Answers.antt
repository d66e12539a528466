use Rattle.opc_machine_laws.proofs.Refusing.{logon_faults}
use Rattle.opc_machine_laws.proofs.laws.logon_faults_are_answered.Goals as goal

pub returns : goal.returns
returns c = logon_faults
