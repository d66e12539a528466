use Rattle.std.proofs.Common.{arith}
use Rattle.opc_names.proofs.GroupNames.{console_names_read_as_users}
use Rattle.opc_answers.proofs.consoles.own_id.Goals as goal

pub as_kind-requires : goal.as_kind-requires
as_kind-requires c = (omega arith, (omega arith, console_names_read_as_users))
