use Rattle.std.proofs.Common.{arith}
use Rattle.sqlite.specs.Held.{state}
use Rattle.sqlite.specs.State.{HasCleanDisk}
use Rattle.opc_store_board.proofs.ReplyRows.{inserts_reply}
use Rattle.opc_store_schema.proofs.OrderedBoard.{with_reply_ordered}
use Rattle.opc_store_board.proofs.replies.put_reply.Goals as goal

pub returns-clause-done : goal.returns-clause-done
returns-clause-done g c clean s was =
    let early : HasCleanDisk (state g.S.Store c.remove_reply.new.tx.conn.now) = omega (arith, c.in_ok-run.ensures.stays.survives.clean) in
    let gone = c.in_ok-remove_reply.ensures.done early s was in
    record {
      ordered = with_reply_ordered s was.ordered c.args.reply.now;
      rows = inserts_reply _ _ _ s c.args.reply.now was.ordered.replies gone.rows
          (rw (c.params-to_sql.ensures, c.params-to_sql-2.ensures, c.reply_number.ensures, c.as_str.ensures) at
          (c.in_ok-run.ensures.ran clean).executes);
    }
