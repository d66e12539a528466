use Rattle.opc_answers_laws.proofs.Checks.{taken_is_found}
use Rattle.opc_answers_laws.proofs.laws.taken_is_found.Goals as goal

pub returns : goal.returns
returns c = taken_is_found
