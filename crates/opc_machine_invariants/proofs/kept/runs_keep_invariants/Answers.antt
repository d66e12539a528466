use Rattle.opc_machine_invariants.proofs.Keeping.{runs_keep}
use Rattle.opc_machine_invariants.proofs.kept.runs_keep_invariants.Goals as goal

pub returns : goal.returns
returns c = runs_keep
