use Rattle.opc_machine_laws.proofs.LinesReported.{go_by_name}
use Rattle.opc_machine_laws.proofs.meanings.boards_go_by_name.Goals as goal

pub returns : goal.returns
returns c = go_by_name
