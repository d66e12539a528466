use Rattle.opc_state.specs.Loads.{devices_of}
use Rattle.opc_store_sql.proofs.Asked.{never_writes}
use Rattle.opc_store_board.proofs.DeviceLoads.{devices_of_asked, devices_of_returned}
use Rattle.opc_store_board.proofs.devices.devices_of_on.Goals as goal

pub members_on-requires-clause-quiet : goal.members_on-requires-clause-quiet
members_on-requires-clause-quiet g c = never_writes devices_of_asked

pub returns-clause-found : goal.returns-clause-found
returns-clause-found g c clean s was = c.members_on.ensures.found clean (devices_of s.board c.args.unit.now)
    (λ rows shown. devices_of_returned _ _ s was c.args.unit.now rows
    (rw (c.params-to_sql.ensures, c.text.ensures.text) at shown))
