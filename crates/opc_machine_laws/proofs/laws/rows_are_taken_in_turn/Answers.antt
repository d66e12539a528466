use Rattle.opc_machine_laws.proofs.Taking.{rows_in_turn}
use Rattle.opc_machine_laws.proofs.laws.rows_are_taken_in_turn.Goals as goal

pub returns : goal.returns
returns c = rows_in_turn
