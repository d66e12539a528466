use Rattle.opc_machine_invariants.proofs.Keeping.{give_keys}
use Rattle.opc_machine_invariants.proofs.kept.invariants_give_keys.Goals as goal

pub returns : goal.returns
returns c = give_keys
