use Rattle.opc_machine_laws.proofs.Leaving.{leaves_rest}
use Rattle.opc_machine_laws.proofs.laws.what_is_done_leaves_the_rest.Goals as goal

pub returns : goal.returns
returns c = leaves_rest
