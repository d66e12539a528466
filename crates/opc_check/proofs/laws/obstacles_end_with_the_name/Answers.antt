use Rattle.opc_check.proofs.Names.{ends_with_name}
use Rattle.opc_check.proofs.laws.obstacles_end_with_the_name.Goals as goal

pub returns : goal.returns
returns c = ends_with_name
