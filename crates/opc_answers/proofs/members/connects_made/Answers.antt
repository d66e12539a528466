use Rattle.std.proofs.Common.{arith}
use Rattle.opc_answers.proofs.Making.{connects_more}
use Rattle.opc_answers.proofs.members.connects_made.Goals as goal

pub loop-row-preserved : goal.loop-row-preserved
loop-row-preserved c = connects_more c.args.rows.now c.loop-row.row-index c.row-item.result _ _ _ (omega arith) c.row-item.is
    c.loop-row.invariant c.in_ok-keep_connect.ensures
