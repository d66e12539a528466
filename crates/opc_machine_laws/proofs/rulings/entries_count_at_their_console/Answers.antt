use Rattle.opc_machine_laws.proofs.Holding.{count_at_their_console}
use Rattle.opc_machine_laws.proofs.rulings.entries_count_at_their_console.Goals as goal

pub returns : goal.returns
returns c = count_at_their_console
