use Rattle.std.proofs.lemmas.Result.{IfOk-weaker}
use Rattle.opc_cli_questions.proofs.Bytes.{found_answer}
use Rattle.opc_cli_questions.proofs.check_answer.of_text.Goals as goal

pub returns : goal.returns
returns c = IfOk-weaker c.of_found.result _ _ (λ answer is. found_answer _ _ _ _ _ _ c.in_ok-found.ensures is) c.of_found.ensures
