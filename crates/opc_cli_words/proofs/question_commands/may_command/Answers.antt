use Rattle.std.proofs.lemmas.Result.{IfOk-weaker}
use Rattle.opc_cli_words.proofs.CommandLine.{one_option_more}
use Rattle.opc_cli_words.proofs.question_commands.may_command.Goals as goal

pub returns : goal.returns
returns c =
    let user = one_option_more _ _ _ _ _ _ c.may_alone.ensures c.needed.ensures.rule c.needed.ensures.alone c.in_ok-arg.ensures in
    let console = one_option_more _ _ _ _ _ _ user c.value.ensures.rule c.value.ensures.alone c.in_ok-arg-2.ensures in
    let allowed = one_option_more _ _ _ _ _ _ console c.flag.ensures.rule c.flag.ensures.alone c.in_ok-arg-3.ensures in
    let json = one_option_more _ _ _ _ _ _ allowed c.flag-2.ensures.rule c.flag-2.ensures.alone c.in_ok-arg-4.ensures in
    let policy = one_option_more _ _ _ _ _ _ json c.value-2.ensures.rule c.value-2.ensures.alone c.in_ok-arg-5.ensures in
    let database = one_option_more _ _ _ _ _ _ policy c.value-3.ensures.rule c.value-3.ensures.alone c.in_ok-arg-6.ensures in
    IfOk-weaker c.arg-7.result _ _ (λ built. one_option_more _ built _ _ _ _ database c.positional.ensures.rule c.positional.ensures.alone) c.arg-7.ensures
