use Rattle.opc_machine_laws.proofs.DenyingAll.{aborted_left}
use Rattle.opc_machine_laws.proofs.laws.aborts_change_nothing.Goals as goal

pub returns : goal.returns
returns c = aborted_left
