use Rattle.opc_machine_invariants.proofs.Keeping.{empty_has}
use Rattle.opc_machine_invariants.proofs.kept.empty_state_has_invariants.Goals as goal

pub returns : goal.returns
returns c = empty_has
