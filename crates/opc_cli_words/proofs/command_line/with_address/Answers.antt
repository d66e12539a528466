use Rattle.std.proofs.lemmas.Result.{IfOk-weaker}
use Rattle.opc_cli_words.proofs.CommandLine.{one_option_more}
use Rattle.opc_cli_words.proofs.command_line.with_address.Goals as goal

pub returns : goal.returns
returns c =
    IfOk-weaker c.arg-4.result _ _ (λ built adds name first was. one_option_more _ built _ name _ _
    (one_option_more _ _ _ name _ _
    (one_option_more _ _ _ name _ _
    (one_option_more _ _ _ name _ _ was c.value.ensures.rule c.value.ensures.alone c.in_ok-arg.ensures)
    c.value-2.ensures.rule c.value-2.ensures.alone c.in_ok-arg-2.ensures)
    c.value-3.ensures.rule c.value-3.ensures.alone c.in_ok-arg-3.ensures)
    c.flag.ensures.rule c.flag.ensures.alone adds) c.arg-4.ensures
