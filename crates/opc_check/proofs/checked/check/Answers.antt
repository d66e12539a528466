use Rattle.opc_check.proofs.Checking.{found_so}
use Rattle.opc_check.proofs.checked.check.Goals as goal

pub returns : goal.returns
returns c = rw (found_so _ _ _ _ c.in_ok-found.ensures) at c.check_found.ensures
