use Rattle.std.proofs.Common.{arith}
use Rattle.opc_answers_sheet.proofs.Grouping.{groups_more}
use Rattle.opc_answers_sheet.proofs.ways.groups_of.Goals as goal

pub loop-line-preserved : goal.loop-line-preserved
loop-line-preserved c = groups_more c.args.lines.now c.loop-line.line-index c.line-item.result _ _ _ (omega arith) c.line-item.is
    c.loop-line.invariant c.in_ok-keep_group.ensures
