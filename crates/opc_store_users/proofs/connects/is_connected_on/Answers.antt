use Rattle.opc_store_sql.proofs.Asked.{never_writes}
use Rattle.opc_store_users.proofs.ConnectLoads.{connect_asked, connect_returned}
use Rattle.opc_store_users.proofs.connects.is_connected_on.Goals as goal

pub is_there_on-requires-clause-quiet : goal.is_there_on-requires-clause-quiet
is_there_on-requires-clause-quiet g c = never_writes connect_asked

pub returns-clause-found : goal.returns-clause-found
returns-clause-found g c clean s was = c.is_there_on.ensures.found clean _
    (λ rows shown. connect_returned _ _ s was c.args.user.now c.args.group.now rows
    (rw (c.params-to_sql.ensures, c.params-to_sql-2.ensures, c.text.ensures.text) at shown))
