use Rattle.opc_machine_laws.proofs.FaultWords.{aborts_say, named_so}
use Rattle.opc_machine_laws.proofs.spellings.faults_are_named_so.Goals as goal

pub returns : goal.returns
returns c = record { named = named_so; aborts = aborts_say }
