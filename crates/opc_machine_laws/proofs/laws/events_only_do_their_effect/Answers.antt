use Rattle.opc_machine_laws.proofs.Leaving.{events_only}
use Rattle.opc_machine_laws.proofs.laws.events_only_do_their_effect.Goals as goal

pub returns : goal.returns
returns c = events_only
