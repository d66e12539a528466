use Rattle.opc_machine_laws.proofs.Hearing.{gives_up_for}
use Rattle.opc_machine_laws.proofs.laws.aborts_without_memory_or_store.Goals as goal

pub returns : goal.returns
returns c = gives_up_for
