use Rattle.std.proofs.lemmas.Result.{IfOk-weaker}
use Rattle.opc_cli_words.proofs.CommandLine.{one_option_more}
use Rattle.opc_cli_words.proofs.question_commands.with_question.Goals as goal

pub returns-clause-explain : goal.returns-clause-explain
returns-clause-explain c =
    IfOk-weaker c.arg-7.result _ _ (λ built adds was. one_option_more _ built _ _ _ _
    (one_option_more _ _ _ _ _ _
    (one_option_more _ _ _ _ _ _
    (one_option_more _ _ _ _ _ _
    (one_option_more _ _ _ _ _ _
    (one_option_more _ _ _ _ _ _
    (one_option_more _ _ _ _ _ _ was c.value.ensures.rule c.value.ensures.alone c.in_ok-arg.ensures)
    c.value-2.ensures.rule c.value-2.ensures.alone c.in_ok-arg-2.ensures)
    c.value-3.ensures.rule c.value-3.ensures.alone c.in_ok-arg-3.ensures)
    c.value-4.ensures.rule c.value-4.ensures.alone c.in_ok-arg-4.ensures)
    c.preset.ensures.rule c.preset.ensures.alone c.in_ok-arg-5.ensures)
    c.value-5.ensures.rule c.value-5.ensures.alone c.in_ok-arg-6.ensures)
    c.flag.ensures.rule c.flag.ensures.alone adds) c.arg-7.ensures

pub returns-clause-who : goal.returns-clause-who
returns-clause-who c =
    IfOk-weaker c.arg-7.result _ _ (λ built adds was. one_option_more _ built _ _ _ _
    (one_option_more _ _ _ _ _ _
    (one_option_more _ _ _ _ _ _
    (one_option_more _ _ _ _ _ _
    (one_option_more _ _ _ _ _ _
    (one_option_more _ _ _ _ _ _
    (one_option_more _ _ _ _ _ _ was c.value.ensures.rule c.value.ensures.alone c.in_ok-arg.ensures)
    c.value-2.ensures.rule c.value-2.ensures.alone c.in_ok-arg-2.ensures)
    c.value-3.ensures.rule c.value-3.ensures.alone c.in_ok-arg-3.ensures)
    c.value-4.ensures.rule c.value-4.ensures.alone c.in_ok-arg-4.ensures)
    c.preset.ensures.rule c.preset.ensures.alone c.in_ok-arg-5.ensures)
    c.value-5.ensures.rule c.value-5.ensures.alone c.in_ok-arg-6.ensures)
    c.flag.ensures.rule c.flag.ensures.alone adds) c.arg-7.ensures
