use Rattle.opc_names.proofs.Heads.{heads_are_prefixes}
use Rattle.opc_names.proofs.laws.heads_are_prefixes.Goals as goal

pub returns : goal.returns
returns c = heads_are_prefixes
