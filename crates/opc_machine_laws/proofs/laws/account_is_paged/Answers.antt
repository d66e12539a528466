use Rattle.opc_machine_laws.proofs.Paging.{account_is_paged}
use Rattle.opc_machine_laws.proofs.laws.account_is_paged.Goals as goal

pub returns : goal.returns
returns c = account_is_paged
