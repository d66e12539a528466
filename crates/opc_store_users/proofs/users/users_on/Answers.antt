use Rattle.opc_store_sql.proofs.Asked.{never_writes}
use Rattle.opc_store_users.proofs.UserLoads.{users_asked, users_returned}
use Rattle.opc_store_users.proofs.users.users_on.Goals as goal

pub members_on-requires-clause-quiet : goal.members_on-requires-clause-quiet
members_on-requires-clause-quiet g c = never_writes users_asked

pub returns-clause-found : goal.returns-clause-found
returns-clause-found g c clean s was = c.members_on.ensures.found clean s.policy.users (users_returned _ _ s was)
