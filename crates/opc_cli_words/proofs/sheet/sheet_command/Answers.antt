use Rattle.std.proofs.lemmas.Result.{IfOk-weaker}
use Rattle.opc_cli_words.proofs.CommandLine.{one_option_more}
use Rattle.opc_cli_words.proofs.sheet.sheet_command.Goals as goal

pub returns : goal.returns
returns c =
    let policy = one_option_more _ _ _ _ _ _ c.command.ensures c.value.ensures.rule c.value.ensures.alone c.in_ok-arg.ensures in
    let database = one_option_more _ _ _ _ _ _ policy c.value-2.ensures.rule c.value-2.ensures.alone c.in_ok-arg-2.ensures in
    IfOk-weaker c.arg-3.result _ _ (λ built. one_option_more _ built _ _ _ _ database c.positional.ensures.rule c.positional.ensures.alone) c.arg-3.ensures
