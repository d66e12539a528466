use Rattle.opc_names.proofs.Heads.{longer_heads_come_first}
use Rattle.opc_names.proofs.laws.longer_heads_come_first.Goals as goal

pub returns : goal.returns
returns c = longer_heads_come_first
