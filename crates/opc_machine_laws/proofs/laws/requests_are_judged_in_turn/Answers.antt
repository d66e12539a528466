use Rattle.opc_machine_laws.proofs.Hearing.{in_turn}
use Rattle.opc_machine_laws.proofs.laws.requests_are_judged_in_turn.Goals as goal

pub returns : goal.returns
returns c = in_turn
