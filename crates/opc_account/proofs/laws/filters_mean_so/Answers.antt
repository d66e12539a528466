use Rattle.opc_account.proofs.Filters.{codes_mean, filters}
use Rattle.opc_account.proofs.laws.filters_mean_so.Goals as goal

pub returns : goal.returns
returns c = record { filters = filters; codes = codes_mean }
