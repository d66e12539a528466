use Rattle.opc_answers_laws.proofs.Checks.{found_is_taken}
use Rattle.opc_answers_laws.proofs.laws.found_is_taken.Goals as goal

pub returns : goal.returns
returns c = found_is_taken
