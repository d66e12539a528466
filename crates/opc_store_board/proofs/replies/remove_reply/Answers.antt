use Rattle.opc_store_board.proofs.ReplyRows.{removes_reply}
use Rattle.opc_store_schema.proofs.OrderedBoard.{without_reply_ordered}
use Rattle.opc_store_board.proofs.replies.remove_reply.Goals as goal

pub returns-clause-done : goal.returns-clause-done
returns-clause-done g c clean s was =
    record {
      ordered = without_reply_ordered s was.ordered c.args.id;
      rows = removes_reply _ _ _ s was.rows was.ordered.replies c.args.id
          (rw (c.params-to_sql.ensures, c.reply_number.ensures) at (c.in_ok-run.ensures.ran clean).executes);
    }
