use Rattle.opc_machine_laws.proofs.InOrder.{go_by_name, patterns_go}
use Rattle.opc_machine_laws.proofs.meanings.members_go_by_name.Goals as goal

pub returns : goal.returns
returns c = record { by_name = go_by_name; examples = patterns_go }
