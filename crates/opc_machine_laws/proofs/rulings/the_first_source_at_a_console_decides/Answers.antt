use Rattle.opc_machine_laws.proofs.FirstSource.{first_at_console}
use Rattle.opc_machine_laws.proofs.rulings.the_first_source_at_a_console_decides.Goals as goal

pub returns : goal.returns
returns c = first_at_console
