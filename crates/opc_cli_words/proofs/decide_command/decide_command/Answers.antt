use Rattle.std.proofs.lemmas.Result.{IfOk-weaker}
use Rattle.opc_cli_words.proofs.CommandLine.{one_option_more}
use Rattle.opc_cli_words.proofs.decide_command.decide_command.Goals as goal

pub returns : goal.returns
returns c =
    let first = one_option_more _ _ _ _ _ _ c.command.ensures c.needed.ensures.rule c.needed.ensures.alone c.in_ok-decide.ensures in
    let clients = c.in_ok-with_clients.ensures _ _ first in
    IfOk-weaker c.arg-2.result _ _ (λ built. one_option_more _ built _ _ _ _ clients c.value.ensures.rule c.value.ensures.alone) c.arg-2.ensures
