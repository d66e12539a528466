use Rattle.std.proofs.lemmas.Result.{IfOk-weaker}
use Rattle.opc_cli_words.proofs.CommandLine.{one_option_more}
use Rattle.opc_cli_words.proofs.question_commands.explain_command.Goals as goal

pub returns : goal.returns
returns c =
    let question = c.in_ok-with_question.ensures.explain c.in_ok-explain_alone.ensures in
    let why = one_option_more _ _ _ _ _ _ question c.flag.ensures.rule c.flag.ensures.alone c.in_ok-arg.ensures in
    let policy = one_option_more _ _ _ _ _ _ why c.value.ensures.rule c.value.ensures.alone c.in_ok-arg-2.ensures in
    let database = one_option_more _ _ _ _ _ _ policy c.value-2.ensures.rule c.value-2.ensures.alone c.in_ok-arg-3.ensures in
    IfOk-weaker c.arg-4.result _ _ (λ built. one_option_more _ built _ _ _ _ database c.positional.ensures.rule c.positional.ensures.alone) c.arg-4.ensures
