use Rattle.std.proofs.Common.{◌∙◌}
use Rattle.opc_store_sql.proofs.Asked.{never_writes}
use Rattle.opc_store_history.proofs.AnsweredLoads.{answered_asked, answered_returned}
use Rattle.opc_store_history.proofs.answered.answered_on.Goals as goal

pub read-requires-clause-quiet : goal.read-requires-clause-quiet
read-requires-clause-quiet g c = never_writes answered_asked

pub returns-clause-found : goal.returns-clause-found
returns-clause-found g c clean s was = c.decode_all.ensures s.board.answered
    (c.as_slice.ensures.value ∙ answered_returned _ _ s was _ (c.in_ok-rows.ensures.shown clean))
