use Rattle.opc_machine_laws.proofs.Displaying.{every_console}
use Rattle.opc_machine_laws.proofs.laws.lists_every_console.Goals as goal

pub returns : goal.returns
returns c = every_console
