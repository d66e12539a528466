use Rattle.opc_store_users.proofs.ConnectRows.{connect_removed}
use Rattle.opc_store_users.proofs.connects.remove_connect.Goals as goal

pub returns-clause-done : goal.returns-clause-done
returns-clause-done g c clean s was =
    connect_removed _ _ _ s was c.args.connect.now
    (rw (c.params-to_sql.ensures, c.params-to_sql-2.ensures, c.text.ensures.text, c.text-2.ensures.text) at
    (c.in_ok-run.ensures.ran clean).executes)
