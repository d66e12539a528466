use Rattle.opc_account.proofs.KnownCodes.{codes_known}
use Rattle.opc_account.proofs.laws.codes_are_known.Goals as goal

pub returns : goal.returns
returns c = codes_known
