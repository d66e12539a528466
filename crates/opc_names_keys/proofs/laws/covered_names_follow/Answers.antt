use Rattle.opc_names_keys.proofs.Followed.{covered_names_follow}
use Rattle.opc_names_keys.proofs.laws.covered_names_follow.Goals as goal

pub returns : goal.returns
returns c = covered_names_follow
