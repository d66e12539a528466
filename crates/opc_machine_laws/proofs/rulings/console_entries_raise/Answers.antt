use Rattle.opc_machine_laws.proofs.Holding.{console_raises}
use Rattle.opc_machine_laws.proofs.rulings.console_entries_raise.Goals as goal

pub returns : goal.returns
returns c = console_raises
