use Rattle.opc_answers_laws.proofs.Checks.{taken_so}
use Rattle.opc_answers_laws.proofs.laws.taken_if_none_is_refused.Goals as goal

pub returns : goal.returns
returns c = taken_so
