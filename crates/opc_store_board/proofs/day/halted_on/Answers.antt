use Rattle.std.proofs.Common.{◌∙◌}
use Rattle.opc_store_sql.proofs.Asked.{never_writes}
use Rattle.opc_store_board.proofs.DayLoads.{day_asked, day_returned}
use Rattle.opc_store_board.proofs.day.halted_on.Goals as goal

pub read-requires-clause-quiet : goal.read-requires-clause-quiet
read-requires-clause-quiet g c = never_writes day_asked

pub returns-clause-found : goal.returns-clause-found
returns-clause-found g c clean s was = c.halted_in.ensures s.board.halted
    (c.as_slice.ensures.value ∙ day_returned _ _ s was _ (c.in_ok-rows.ensures.shown clean))
