use Rattle.std.proofs.lemmas.Result.{IfOk-weaker}
use Rattle.opc_cli_words.proofs.CommandLine.{one_option_more}
use Rattle.opc_cli_words.proofs.command_line.import_command.Goals as goal

pub returns : goal.returns
returns c =
    let option_1 = one_option_more _ _ _ _ _ _ c.command.ensures c.needed.ensures.rule c.needed.ensures.alone c.in_ok-arg.ensures in
    let option_2 = one_option_more _ _ _ _ _ _ option_1 c.needed-2.ensures.rule c.needed-2.ensures.alone c.in_ok-arg-2.ensures in
    let option_3 = one_option_more _ _ _ _ _ _ option_2 c.value.ensures.rule c.value.ensures.alone c.in_ok-arg-3.ensures in
    let option_4 = one_option_more _ _ _ _ _ _ option_3 c.flag.ensures.rule c.flag.ensures.alone c.in_ok-arg-4.ensures in
    IfOk-weaker c.arg-5.result _ _ (λ built. one_option_more _ built _ _ _ _ option_4 c.positional.ensures.rule c.positional.ensures.alone) c.arg-5.ensures
