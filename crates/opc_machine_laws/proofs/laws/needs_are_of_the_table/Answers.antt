use Rattle.opc_machine_laws.proofs.Hearing.{of_the_table}
use Rattle.opc_machine_laws.proofs.laws.needs_are_of_the_table.Goals as goal

pub returns : goal.returns
returns c = of_the_table
