use Rattle.opc_machine.proofs.SameBatches.{same_are_equal}
use Rattle.opc_machine_laws.proofs.laws.same_rows_are_equal.Goals as goal

pub returns : goal.returns
returns c = same_are_equal
