use Rattle.opc_machine_laws.proofs.Specific.{cover_so}
use Rattle.opc_machine_laws.proofs.meanings.patterns_cover_so.Goals as goal

pub returns : goal.returns
returns c = cover_so
