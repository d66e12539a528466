use Rattle.std.proofs.Common.{take}
use Rattle.opc_state.specs.Loads.{masters}
use Rattle.opc_store_sql.proofs.Asked.{never_writes}
use Rattle.opc_store_board.proofs.MasterLoads.{masters_asked, masters_returned}
use Rattle.opc_store_board.proofs.consoles.masters_on.Goals as goal

pub members_on-requires-clause-quiet : goal.members_on-requires-clause-quiet
members_on-requires-clause-quiet g c = never_writes masters_asked

pub returns-clause-found : goal.returns-clause-found
returns-clause-found g c clean s was = c.members_on.ensures.found clean (take 2 (masters s.board)) (masters_returned _ _ s was)
