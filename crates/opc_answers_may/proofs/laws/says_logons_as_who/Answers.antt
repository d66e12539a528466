use Rattle.opc_answers_may.proofs.Alike.{says_one_under_a_head}
use Rattle.opc_answers_may.proofs.AsWho.{says_logons}
use Rattle.opc_answers_may.proofs.Heads.{has_one_head, stands_under_its_head}
use Rattle.opc_answers_may.proofs.laws.says_logons_as_who.Goals as goal

pub returns : goal.returns
returns c = record { line = says_logons; head = has_one_head; under = stands_under_its_head; alike = says_one_under_a_head }
