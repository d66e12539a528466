use Rattle.opc_machine_laws.proofs.ReadSo.{read_so}
use Rattle.opc_machine_laws.proofs.meanings.lines_are_read_so.Goals as goal

pub returns : goal.returns
returns c = read_so
