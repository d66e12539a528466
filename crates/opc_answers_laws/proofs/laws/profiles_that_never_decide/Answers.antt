use Rattle.opc_answers_laws.proofs.Unmet.{noted_unless_deciding}
use Rattle.opc_answers_laws.proofs.laws.profiles_that_never_decide.Goals as goal

pub returns : goal.returns
returns c = noted_unless_deciding
