use Rattle.std.proofs.lemmas.Result.{on_ok_weaker}
use Rattle.opc_store_users.proofs.ConnectRows.{connect_put}
use Rattle.opc_store_users.proofs.connects.put_connect.Goals as goal

pub returns-clause-done : goal.returns-clause-done
returns-clause-done g c clean =
    on_ok_weaker c.put.result (λ h s was. connect_put g.S.Store _ _ s was c.args.connect.now
    (rw (c.params-to_sql.ensures, c.params-to_sql-2.ensures, c.text.ensures.text, c.text-2.ensures.text) at h))
    (c.put.ensures.put clean)
