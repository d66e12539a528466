use Rattle.std.specs.Str.{bytes_eq}
use Rattle.opc_store_sql.proofs.Asked.{never_writes}
use Rattle.opc_store_board.proofs.ConsoleLoads.{console_asked, console_returned}
use Rattle.opc_store_board.proofs.consoles.console_on.Goals as goal

pub member_on-requires-clause-quiet : goal.member_on-requires-clause-quiet
member_on-requires-clause-quiet g c = never_writes console_asked

pub returns-clause-found : goal.returns-clause-found
returns-clause-found g c clean s was = c.member_on.ensures.found clean (λ x. bytes_eq x.name c.args.name.now)
    s.board.consoles (λ rows shown. console_returned _ _ s was c.args.name.now rows
    (rw (c.params-to_sql.ensures, c.text.ensures.text) at shown))
