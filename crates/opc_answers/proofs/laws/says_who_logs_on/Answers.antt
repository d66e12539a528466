use Rattle.opc_answers.proofs.Admitted.{is_done, rules_logons, who_logs_on}
use Rattle.opc_answers.proofs.laws.says_who_logs_on.Goals as goal

pub returns : goal.returns
returns c = record { ruling = rules_logons; may = who_logs_on; done = is_done }
