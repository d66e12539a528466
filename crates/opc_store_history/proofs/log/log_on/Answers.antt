use Rattle.std.proofs.Common.{◌∙◌}
use Rattle.opc_store_sql.proofs.Asked.{never_writes}
use Rattle.opc_store_history.proofs.LogLoads.{log_asked, log_returned}
use Rattle.opc_store_history.proofs.log.log_on.Goals as goal

pub read-requires-clause-quiet : goal.read-requires-clause-quiet
read-requires-clause-quiet g c = never_writes log_asked

pub returns-clause-found : goal.returns-clause-found
returns-clause-found g c clean s was = c.decode_all.ensures s.board.log (c.as_slice.ensures.value ∙ log_returned _ _ s was _ (c.in_ok-rows.ensures.shown clean))
