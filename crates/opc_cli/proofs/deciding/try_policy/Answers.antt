use Rattle.std.proofs.Common.{refl}
use Rattle.opc_cli.proofs.deciding.try_policy.Goals as goal

pub returns-in-Ok : goal.returns-in-Ok
returns-in-Ok c = (c.side_at.result, c.side_at.ensures, rw c.in-Ok.is refl)
