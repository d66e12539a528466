use Rattle.opc_machine_laws.proofs.Masters.{steps_keep_a_master}
use Rattle.opc_machine_laws.proofs.effects.steps_keep_a_master.Goals as goal

pub returns : goal.returns
returns c = steps_keep_a_master
