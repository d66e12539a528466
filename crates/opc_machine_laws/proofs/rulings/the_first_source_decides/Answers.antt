use Rattle.opc_machine_laws.proofs.FirstSource.{first}
use Rattle.opc_machine_laws.proofs.rulings.the_first_source_decides.Goals as goal

pub returns : goal.returns
returns c = first
