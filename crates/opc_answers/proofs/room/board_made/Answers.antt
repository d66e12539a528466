use Rattle.std.proofs.Common.{arith}
use Rattle.opc_answers.proofs.Making.{consoles_more}
use Rattle.opc_answers.proofs.room.board_made.Goals as goal

pub loop-row-preserved : goal.loop-row-preserved
loop-row-preserved c = consoles_more c.args.rows.now c.loop-row.row-index _ _ _ _ (omega arith)
    c.row-item.is c.loop-row.invariant c.in_ok-define_console.ensures
