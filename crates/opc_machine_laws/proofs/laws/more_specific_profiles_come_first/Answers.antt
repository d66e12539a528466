use Rattle.opc_machine_laws.proofs.ProfileOrder.{more_specific_first}
use Rattle.opc_machine_laws.proofs.laws.more_specific_profiles_come_first.Goals as goal

pub returns : goal.returns
returns c = more_specific_first
