use Rattle.opc_machine_laws.proofs.Leaving.{asked}
use Rattle.opc_machine_laws.proofs.meanings.requests_are_asked.Goals as goal

pub returns : goal.returns
returns c = asked
