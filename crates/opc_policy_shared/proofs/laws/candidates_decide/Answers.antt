use Rattle.opc_policy_shared.proofs.Shared.{candidates_decide}
use Rattle.opc_policy_shared.proofs.laws.candidates_decide.Goals as goal

pub returns : goal.returns
returns c = candidates_decide
