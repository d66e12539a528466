use Rattle.std.proofs.Common.{◌∙◌}
use Rattle.opc_store_sql.proofs.Asked.{never_writes}
use Rattle.opc_store_old_tables.specs.Tables.{First}
use Rattle.opc_store_old_tables.proofs.ConnectLoads.{connects_asked, connects_returned}
use Rattle.opc_store_old_tables.proofs.connects.connects_on.Goals as goal

pub read-requires-clause-quiet : goal.read-requires-clause-quiet
read-requires-clause-quiet g c = never_writes (connects_asked First)

pub returns-clause-found : goal.returns-clause-found
returns-clause-found g c clean version s was =
    c.connects_in.ensures s.policy.connects
    (c.as_slice.ensures.value ∙ connects_returned version _ _ s was _ (c.in_ok-rows.ensures.shown clean))
