use Rattle.opc_answers_laws.proofs.Unmet.{noted_unless_met}
use Rattle.opc_answers_laws.proofs.laws.profiles_that_are_not_met.Goals as goal

pub returns : goal.returns
returns c = noted_unless_met
