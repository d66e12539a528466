use Rattle.opc_account.proofs.Filters.{rows_counted}
use Rattle.opc_account.proofs.laws.rows_are_counted.Goals as goal

pub returns : goal.returns
returns c = rows_counted
