use Rattle.opc_policy_changes.proofs.States.{others_leave}
use Rattle.opc_policy_changes.proofs.laws.others_leave_the_policy_file.Goals as goal

pub returns : goal.returns
returns c = others_leave
