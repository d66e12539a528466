use Rattle.std.proofs.Common.{◌==◌}
use Rattle.opc_store_sql.proofs.Asked.{never_writes}
use Rattle.opc_store_board.proofs.ReplyLoads.{reply_asked, reply_returned}
use Rattle.opc_store_board.proofs.replies.reply_on.Goals as goal

pub member_on-requires-clause-quiet : goal.member_on-requires-clause-quiet
member_on-requires-clause-quiet g c = never_writes reply_asked

pub returns-clause-found : goal.returns-clause-found
returns-clause-found g c clean s was = c.member_on.ensures.found clean (λ r. r.id == c.args.id) s.board.replies
    (λ rows shown. reply_returned _ _ s was c.args.id rows (rw (c.params-to_sql.ensures, c.reply_number.ensures) at shown))
