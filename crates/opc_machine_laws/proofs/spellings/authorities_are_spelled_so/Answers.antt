use Rattle.opc_machine_laws.proofs.SpelledSo.{authorities_spelled, authorities_typed}
use Rattle.opc_machine_laws.proofs.spellings.authorities_are_spelled_so.Goals as goal

pub returns : goal.returns
returns c = record { spelled = authorities_spelled; typed = authorities_typed }
