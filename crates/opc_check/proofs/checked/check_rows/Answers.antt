use Rattle.std.proofs.Common.{◌≡◌, sym}
use Rattle.opc_check.proofs.Checking.{after_so}
use Rattle.opc_check.proofs.checked.check_rows.Goals as goal

pub returns : goal.returns
returns c = rw (after_so _ _ _ _ (rw c.deref.ensures.value at c.in_ok-refused.ensures)) at c.after_refusing.ensures
