use Rattle.opc_machine_laws.proofs.Batches.{batches_kept}
use Rattle.opc_machine_laws.proofs.meanings.batches_are_kept.Goals as goal

pub returns : goal.returns
returns c = batches_kept
