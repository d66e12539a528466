use Rattle.opc_machine_invariants.proofs.Keeping.{bootstraps_keep}
use Rattle.opc_machine_invariants.proofs.kept.bootstraps_keep_invariants.Goals as goal

pub returns : goal.returns
returns c = bootstraps_keep
