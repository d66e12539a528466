use Rattle.std.proofs.Common.{arith}
use Rattle.opc_answers_diff.proofs.Named.{consoles_more}
use Rattle.opc_answers_diff.proofs.verdicts.add_consoles.Goals as goal

pub loop-entry-preserved : goal.loop-entry-preserved
loop-entry-preserved c = consoles_more c.args.entries.now c.loop-entry.entry-index c.entry-item.result _ _ _ (omega arith)
    c.entry-item.is c.loop-entry.invariant c.in_ok-add_console.ensures
