use Rattle.opc_machine_laws.proofs.Changing.{account_only}
use Rattle.opc_machine_laws.proofs.laws.lists_account_only_where_shown.Goals as goal

pub returns : goal.returns
returns c = account_only
