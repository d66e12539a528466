use Rattle.opc_machine_laws.proofs.SpelledSo.{spellings_alone}
use Rattle.opc_machine_laws.proofs.spellings.spellings_are_alone.Goals as goal

pub returns : goal.returns
returns c = spellings_alone
