use Rattle.opc_store_history.proofs.LogRows.{log_added}
use Rattle.opc_store_history.proofs.log.add_log.Goals as goal

pub returns-clause-done : goal.returns-clause-done
returns-clause-done g c clean s was =
    let h = rw (c.params-to_sql.ensures, c.as_str.ensures) at (c.in_ok-run.ensures.ran clean).executes in
    log_added _ _ _ s was c.args.text.now h c.last_number-number.ensures.fits
