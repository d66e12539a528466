use Rattle.std.proofs.lemmas.Result.{on_ok_weaker}
use Rattle.opc_store_users.proofs.GroupRows.{group_put}
use Rattle.opc_store_users.proofs.groups.put_group.Goals as goal

pub returns-clause-done : goal.returns-clause-done
returns-clause-done g c clean =
    on_ok_weaker c.put.result (λ h s was. group_put g.S.Store _ _ s was c.args.name.now
    (rw (c.params-to_sql.ensures, c.text.ensures.text) at h)) (c.put.ensures.put clean)
