use Rattle.opc_store_board.proofs.DayRows.{sets_halted}
use Rattle.opc_store_schema.proofs.OrderedBoard.{halted_ordered}
use Rattle.opc_store_board.proofs.day.set_halted.Goals as goal

pub returns-clause-done : goal.returns-clause-done
returns-clause-done g c clean s was =
    record {
      ordered = halted_ordered s was.ordered c.args.halted;
      rows = sets_halted _ _ _ s was.rows c.args.halted (rw c.params-to_sql.ensures at (c.in_ok-run.ensures.ran clean).executes);
    }
