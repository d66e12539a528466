use Rattle.opc_machine_laws.proofs.Groups.{each_group}
use Rattle.opc_machine_laws.proofs.meanings.each_group_counts.Goals as goal

pub returns : goal.returns
returns c = each_group
