use Rattle.opc_machine_laws.proofs.Granting.{profiles_seen}
use Rattle.opc_machine_laws.proofs.laws.profiles_are_seen_by_readers.Goals as goal

pub returns : goal.returns
returns c = profiles_seen
