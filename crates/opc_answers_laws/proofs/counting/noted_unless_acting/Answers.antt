use Rattle.opc_answers_laws.proofs.WhoCounts.{noted_so}
use Rattle.opc_answers_laws.proofs.counting.noted_unless_acting.Goals as goal

pub returns : goal.returns
returns c = noted_so
