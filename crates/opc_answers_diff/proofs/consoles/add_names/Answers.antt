use Rattle.std.proofs.Common.{arith}
use Rattle.opc_answers_diff.proofs.Named.{names_more}
use Rattle.opc_answers_diff.proofs.consoles.add_names.Goals as goal

pub loop-console-preserved : goal.loop-console-preserved
loop-console-preserved c = names_more c.args.consoles.now c.loop-console.console-index c.console-item.result _ _ _ (omega arith)
    c.console-item.is c.loop-console.invariant c.in_ok-insert.ensures.keys
