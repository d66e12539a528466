use Rattle.std.proofs.lemmas.Result.{IfOk-weaker}
use Rattle.opc_cli_words.proofs.CommandLine.{one_option_more}
use Rattle.opc_cli_words.proofs.diff_command.diff_command.Goals as goal

pub returns : goal.returns
returns c =
    let old = one_option_more _ _ _ _ _ _ c.command.ensures c.needed_positional.ensures.rule c.needed_positional.ensures.alone c.in_ok-arg.ensures in
    let new = one_option_more _ _ _ _ _ _ old c.needed_positional-2.ensures.rule c.needed_positional-2.ensures.alone c.in_ok-arg-2.ensures in
    IfOk-weaker c.arg-3.result _ _ (λ built. one_option_more _ built _ _ _ _ new c.flag.ensures.rule c.flag.ensures.alone) c.arg-3.ensures
