use Rattle.opc_names.proofs.GroupNames.{group_names_read_as_users}
use Rattle.opc_names.proofs.laws.group_names_read_as_users.Goals as goal

pub returns : goal.returns
returns c = group_names_read_as_users
