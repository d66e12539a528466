use Rattle.opc_machine_laws.proofs.SpelledSo.{replies_numbered}
use Rattle.opc_machine_laws.proofs.spellings.replies_are_numbered_so.Goals as goal

pub returns : goal.returns
returns c = replies_numbered
