use Rattle.std.proofs.Common.{◌≡◌, arith, length, refl}
use Rattle.opc_check.proofs.Checking.{is_zero, not_zero}
use Rattle.opc_check.proofs.checked.after_refusing.Goals as goal

pub returns-then-count-eq0 : goal.returns-then-count-eq0
returns-then-count-eq0 c = rw (is_zero _ c.if-count-eq0.true) (refl, refl)

pub returns : goal.returns
returns c =
    let all : c.len.result ≡ length c.args.rows.items = omega (arith, c.args.rows.ok.0, c.len.ensures) in
    rw (not_zero _ c.if-count-eq0.false) (rw (c.deref.ensures.value, c.as_str.ensures.value, c.in_ok-last.ensures, all) at c.with_last.ensures)
