use Rattle.std.proofs.lemmas.Result.{IfOk-weaker}
use Rattle.opc_cli_words.proofs.CommandLine.{one_option_more}
use Rattle.opc_cli_words.proofs.command_line.with_clients.Goals as goal

pub returns : goal.returns
returns c =
    IfOk-weaker c.arg-3.result _ _ (λ built adds name first was. one_option_more _ built _ name _ _
    (one_option_more _ _ _ name _ _
    (one_option_more _ _ _ name _ _ (c.in_ok-with_address.ensures name first was)
    c.preset.ensures.rule c.preset.ensures.alone c.in_ok-arg.ensures)
    c.preset-2.ensures.rule c.preset-2.ensures.alone c.in_ok-arg-2.ensures)
    c.flag.ensures.rule c.flag.ensures.alone adds) c.arg-3.ensures
