use Rattle.opc_reader.proofs.OneWay.{one_way}
use Rattle.opc_reader.proofs.laws.reads_in_one_way.Goals as goal

pub returns : goal.returns
returns c = one_way
