use Rattle.opc_state.proofs.Footprint.{differences}
use Rattle.opc_state.proofs.laws.differences_are_local.Goals as goal

pub returns : goal.returns
returns c = differences
