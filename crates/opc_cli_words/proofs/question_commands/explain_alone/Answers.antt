use Rattle.std.proofs.lemmas.Result.{IfOk-weaker}
use Rattle.opc_cli_words.proofs.CommandLine.{one_option_more}
use Rattle.opc_cli_words.proofs.question_commands.explain_alone.Goals as goal

pub returns : goal.returns
returns c =
    IfOk-weaker c.arg.result _ _ (λ built. one_option_more _ built _ _ _ _ c.command.ensures c.needed.ensures.rule c.needed.ensures.alone) c.arg.ensures
