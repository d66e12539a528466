use Rattle.opc_answers_laws.proofs.WhoCounts.{as_neither}
use Rattle.opc_answers_laws.proofs.counting.revoked_users_count_as_neither.Goals as goal

pub returns : goal.returns
returns c = as_neither
