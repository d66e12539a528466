use Rattle.opc_machine_laws.proofs.Taking.{by_number}
use Rattle.opc_machine_laws.proofs.laws.batches_are_found_by_number.Goals as goal

pub returns : goal.returns
returns c = by_number
