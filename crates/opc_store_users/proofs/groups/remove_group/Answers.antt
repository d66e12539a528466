use Rattle.opc_store_users.proofs.GroupRows.{group_removed}
use Rattle.opc_store_users.proofs.groups.remove_group.Goals as goal

pub returns-clause-done : goal.returns-clause-done
returns-clause-done g c clean s was =
    group_removed _ _ _ s was c.args.name.now (rw (c.params-to_sql.ensures, c.text.ensures.text) at (c.in_ok-run.ensures.ran clean).executes)
