use Rattle.opc_machine_laws.proofs.Masters.{commands_do}
use Rattle.opc_machine_laws.proofs.effects.commands_do_what_they_say.Goals as goal

pub returns : goal.returns
returns c = commands_do
