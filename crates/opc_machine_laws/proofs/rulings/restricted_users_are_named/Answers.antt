use Rattle.opc_machine_laws.proofs.Holding.{restricted_named}
use Rattle.opc_machine_laws.proofs.rulings.restricted_users_are_named.Goals as goal

pub returns : goal.returns
returns c = restricted_named
