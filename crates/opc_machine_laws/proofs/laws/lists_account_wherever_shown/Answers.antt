use Rattle.opc_machine_laws.proofs.Changing.{account_wherever}
use Rattle.opc_machine_laws.proofs.laws.lists_account_wherever_shown.Goals as goal

pub returns : goal.returns
returns c = account_wherever
