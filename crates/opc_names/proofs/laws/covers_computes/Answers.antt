use Rattle.opc_names.proofs.Computed.{covers_computes}
use Rattle.opc_names.proofs.laws.covers_computes.Goals as goal

pub returns : goal.returns
returns c = covers_computes
