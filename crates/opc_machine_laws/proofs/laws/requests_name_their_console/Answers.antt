use Rattle.opc_machine_laws.proofs.Leaving.{console_named}
use Rattle.opc_machine_laws.proofs.laws.requests_name_their_console.Goals as goal

pub returns : goal.returns
returns c = console_named
