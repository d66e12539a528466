use Rattle.std.proofs.Common.{arith}
use Rattle.opc_answers.proofs.Making.{users_more}
use Rattle.opc_answers.proofs.room.users_made.Goals as goal

pub loop-row-preserved : goal.loop-row-preserved
loop-row-preserved c = record {
  by_id = c.in_ok-keep_user.ensures.by_id;
  users = users_more c.args.rows.now c.loop-row.row-index c.row-item.result _ _ _ (omega arith) c.row-item.is
      c.loop-row.invariant.users c.in_ok-keep_user.ensures.users;
}
