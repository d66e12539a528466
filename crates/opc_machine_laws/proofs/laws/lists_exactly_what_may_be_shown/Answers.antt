use Rattle.opc_machine_laws.proofs.Acting.{lists_exactly}
use Rattle.opc_machine_laws.proofs.laws.lists_exactly_what_may_be_shown.Goals as goal

pub returns : goal.returns
returns c = lists_exactly
