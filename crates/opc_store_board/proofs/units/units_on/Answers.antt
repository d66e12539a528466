use Rattle.opc_store_sql.proofs.Asked.{never_writes}
use Rattle.opc_store_board.proofs.UnitLoads.{units_asked, units_returned}
use Rattle.opc_store_board.proofs.units.units_on.Goals as goal

pub members_on-requires-clause-quiet : goal.members_on-requires-clause-quiet
members_on-requires-clause-quiet g c = never_writes units_asked

pub returns-clause-found : goal.returns-clause-found
returns-clause-found g c clean s was = c.members_on.ensures.found clean s.board.units (units_returned _ _ s was)
