use Rattle.opc_machine_laws.proofs.Taking.{do_what_they_say, operations_keep_a_master}
use Rattle.opc_machine_laws.proofs.laws.operations_do_what_they_say.Goals as goal

pub returns : goal.returns
returns c = record { done = do_what_they_say; master = operations_keep_a_master }
