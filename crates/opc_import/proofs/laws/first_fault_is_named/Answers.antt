use Rattle.opc_import.proofs.FirstFaults.{first-fault}
use Rattle.opc_import.proofs.laws.first_fault_is_named.Goals as goal

pub returns : goal.returns
returns c = first-fault
