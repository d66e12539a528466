use Rattle.opc_store_users.proofs.UserRows.{user_removed}
use Rattle.opc_store_users.proofs.users.remove_user.Goals as goal

pub returns-clause-done : goal.returns-clause-done
returns-clause-done g c clean s was =
    user_removed _ _ _ s was c.args.id.now (rw (c.params-to_sql.ensures, c.text.ensures.text) at (c.in_ok-run.ensures.ran clean).executes)
