use Rattle.opc_machine_laws.proofs.NamedSo.{named_so}
use Rattle.opc_machine_laws.proofs.spellings.names_are_so.Goals as goal

pub returns : goal.returns
returns c = named_so
