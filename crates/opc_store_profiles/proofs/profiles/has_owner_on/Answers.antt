use Rattle.opc_store_sql.proofs.Asked.{never_writes}
use Rattle.opc_store_profiles.proofs.ProfileLoads.{any_owned_asked, any_owned_returned}
use Rattle.opc_store_profiles.proofs.profiles.has_owner_on.Goals as goal

pub is_there_on-requires-clause-quiet : goal.is_there_on-requires-clause-quiet
is_there_on-requires-clause-quiet g c = never_writes any_owned_asked

pub returns-clause-found : goal.returns-clause-found
returns-clause-found g c clean s was = c.is_there_on.ensures.found clean _
    (λ rows shown. any_owned_returned _ _ s was c.args.user.now rows
    (rw (c.params-to_sql.ensures, c.text.ensures.text) at shown))
