use Rattle.opc_machine_laws.proofs.Hearing.{nothing_asked}
use Rattle.opc_machine_laws.proofs.laws.nothing_asked_changes_nothing.Goals as goal

pub returns : goal.returns
returns c = nothing_asked
