use Rattle.opc_machine_invariants.proofs.Keeping.{steps_keep}
use Rattle.opc_machine_invariants.proofs.kept.steps_keep_invariants.Goals as goal

pub returns : goal.returns
returns c = steps_keep
