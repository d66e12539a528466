use Rattle.opc_answers_laws.proofs.Digits.{digests_log_on}
use Rattle.opc_answers_laws.proofs.laws.digests_log_on.Goals as goal

pub returns : goal.returns
returns c = digests_log_on
