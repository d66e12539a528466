use Rattle.opc_machine_laws.proofs.Masters.{events_do}
use Rattle.opc_machine_laws.proofs.effects.events_do_what_they_say.Goals as goal

pub returns : goal.returns
returns c = events_do
