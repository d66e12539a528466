use Rattle.opc_machine_laws.proofs.Changing.{profiles_exactly}
use Rattle.opc_machine_laws.proofs.laws.lists_exactly_profiles_shown.Goals as goal

pub returns : goal.returns
returns c = profiles_exactly
