use Rattle.std.specs.Str.{bytes_eq}
use Rattle.opc_store_sql.proofs.Asked.{never_writes}
use Rattle.opc_store_users.proofs.UserLoads.{user_asked, user_returned}
use Rattle.opc_store_users.proofs.users.user_on.Goals as goal

pub member_on-requires-clause-quiet : goal.member_on-requires-clause-quiet
member_on-requires-clause-quiet g c = never_writes user_asked

pub returns-clause-found : goal.returns-clause-found
returns-clause-found g c clean s was = c.member_on.ensures.found clean (λ u. bytes_eq c.args.id.now u.id) s.policy.users
    (λ rows shown. user_returned _ _ s was c.args.id.now rows (rw (c.params-to_sql.ensures, c.text.ensures.text) at shown))
