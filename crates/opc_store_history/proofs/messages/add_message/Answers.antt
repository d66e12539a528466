use Rattle.opc_store_history.proofs.MessageRows.{messages_added}
use Rattle.opc_store_history.proofs.messages.add_message.Goals as goal

pub returns-clause-done : goal.returns-clause-done
returns-clause-done g c clean s was =
    let h = rw (c.params-to_sql.ensures, c.params-to_sql-2.ensures, c.text.ensures.text, c.as_str.ensures) at (c.in_ok-run.ensures.ran clean).executes in
    messages_added _ _ _ s was c.args.message.now h c.last_number-number.ensures.fits
