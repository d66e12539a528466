use Rattle.opc_machine_laws.proofs.Leaving.{rows_report}
use Rattle.opc_machine_laws.proofs.laws.account_rows_say.Goals as goal

pub returns : goal.returns
returns c = rows_report
