use Rattle.opc_answers.proofs.Words.{denied_so}
use Rattle.opc_answers.proofs.laws.says_what_is_denied.Goals as goal

pub returns : goal.returns
returns c = denied_so
