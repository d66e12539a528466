use Rattle.opc_store_sql.proofs.Asked.{never_writes}
use Rattle.opc_store_users.proofs.UserLoads.{any_user_asked, any_user_returned}
use Rattle.opc_store_users.proofs.users.has_users_on.Goals as goal

pub is_there_on-requires-clause-quiet : goal.is_there_on-requires-clause-quiet
is_there_on-requires-clause-quiet g c = never_writes any_user_asked

pub returns-clause-found : goal.returns-clause-found
returns-clause-found g c clean s was = c.is_there_on.ensures.found clean _ (λ rows shown. any_user_returned _ _ s was rows shown)
