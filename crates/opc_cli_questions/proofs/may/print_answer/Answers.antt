use Rattle.std.proofs.Common.{refl}
use Rattle.opc_cli_questions.proofs.may.print_answer.Goals as goal

pub returns : goal.returns
returns g c =
    let text = c.in_ok-print_may.ensures.text in
    (text.0, (text.1, refl), text.2)
