use Rattle.opc_store_history.proofs.AnsweredRows.{answered_added}
use Rattle.opc_store_history.proofs.answered.add_answered.Goals as goal

pub returns-clause-done : goal.returns-clause-done
returns-clause-done g c clean s was =
    let h = rw (c.params-to_sql.ensures, c.params-to_sql-2.ensures, c.reply_number.ensures, c.as_str.ensures) at (c.in_ok-run.ensures.ran clean).executes in
    answered_added _ _ _ s was c.args.reply.now h c.last_number-number.ensures.fits
