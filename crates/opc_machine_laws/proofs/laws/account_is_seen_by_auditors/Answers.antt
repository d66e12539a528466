use Rattle.opc_machine_laws.proofs.Granting.{account_seen}
use Rattle.opc_machine_laws.proofs.laws.account_is_seen_by_auditors.Goals as goal

pub returns : goal.returns
returns c = account_seen
