use Rattle.opc_check.proofs.Checking.{is_zero, not_zero}
use Rattle.opc_check.proofs.checked.check_reading.Goals as goal

pub returns-then-bad-eq0 : goal.returns-then-bad-eq0
returns-then-bad-eq0 c = rw (is_zero _ c.if-bad-eq0.true) c.check_rows.ensures

pub returns : goal.returns
returns c =
    rw (not_zero _ c.if-bad-eq0.false) (rw (c.deref.ensures.value, c.as_str.ensures.value, c.in_ok-last.ensures) at c.with_last.ensures)
