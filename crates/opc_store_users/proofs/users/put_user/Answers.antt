use Rattle.std.proofs.lemmas.Result.{on_ok_weaker}
use Rattle.opc_store_users.proofs.UserRows.{user_put, digest_is}
use Rattle.opc_store_users.proofs.users.put_user.Goals as goal

pub returns-clause-done : goal.returns-clause-done
returns-clause-done g c clean =
    on_ok_weaker c.put.result (λ h s was. user_put g.S.Store _ _ s was c.args.user.now
    (rw (
      c.params-to_sql.ensures,
      c.params-to_sql-2.ensures,
      c.params-to_sql-3.ensures,
      c.params-to_sql-4.ensures,
      c.params-to_sql-5.ensures,
      c.params-to_sql-6.ensures,
      c.text.ensures.text,
      digest_is c.digest_of.result,
      c.digest_of.ensures,
    ) at h)) (c.put.ensures.put clean)
