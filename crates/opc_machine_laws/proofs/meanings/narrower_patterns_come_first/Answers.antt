use Rattle.opc_machine_laws.proofs.Specific.{narrower_first}
use Rattle.opc_machine_laws.proofs.meanings.narrower_patterns_come_first.Goals as goal

pub returns : goal.returns
returns c = narrower_first
