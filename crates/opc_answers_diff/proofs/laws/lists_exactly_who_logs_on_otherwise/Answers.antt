use Rattle.opc_answers_diff.proofs.Exactly.{lists_who_logs_on}
use Rattle.opc_answers_diff.proofs.laws.lists_exactly_who_logs_on_otherwise.Goals as goal

pub returns : goal.returns
returns c = lists_who_logs_on
