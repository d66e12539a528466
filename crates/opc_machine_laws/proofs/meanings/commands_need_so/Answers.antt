use Rattle.opc_machine_laws.proofs.Needing.{commands_need}
use Rattle.opc_machine_laws.proofs.meanings.commands_need_so.Goals as goal

pub returns : goal.returns
returns c = commands_need
