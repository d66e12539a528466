use Rattle.opc_machine_laws.proofs.RefusedSo.{faults_read, refused_so}
use Rattle.opc_machine_laws.proofs.spellings.lines_are_refused_so.Goals as goal

pub returns : goal.returns
returns c = record { refused = refused_so; reported = faults_read }
