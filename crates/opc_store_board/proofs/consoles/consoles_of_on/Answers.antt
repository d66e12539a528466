use Rattle.opc_state.specs.Loads.{consoles_of}
use Rattle.opc_store_sql.proofs.Asked.{never_writes}
use Rattle.opc_store_board.proofs.ConsoleLoads.{consoles_of_asked, consoles_of_returned}
use Rattle.opc_store_board.proofs.consoles.consoles_of_on.Goals as goal

pub members_on-requires-clause-quiet : goal.members_on-requires-clause-quiet
members_on-requires-clause-quiet g c = never_writes consoles_of_asked

pub returns-clause-found : goal.returns-clause-found
returns-clause-found g c clean s was = c.members_on.ensures.found clean (consoles_of s.board c.args.user.now)
    (λ rows shown. consoles_of_returned _ _ s was c.args.user.now rows
    (rw (c.params-to_sql.ensures, c.text.ensures.text) at shown))
