use Rattle.opc_decide_answers.proofs.Allowed.{permits_what_is_allowed}
use Rattle.opc_decide_answers.proofs.laws.permits_what_is_allowed.Goals as goal

pub returns : goal.returns
returns c = permits_what_is_allowed
