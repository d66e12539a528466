use Rattle.opc_machine_laws.proofs.Hearing.{only_heard}
use Rattle.opc_machine_laws.proofs.laws.only_what_is_heard_is_done.Goals as goal

pub returns : goal.returns
returns c = only_heard
