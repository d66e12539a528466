use Rattle.std.proofs.Common.{◌≡◌, true, nat_le, length, arith, subst, sym}
use Rattle.std.proofs.lemmas.Bool.Decides.{nat_tests}
use Rattle.std.proofs.lemmas.Result.{err_from_is_err_and}
use Rattle.std.specs.Str.Lines.{lines}
use Rattle.opc_cli_script.specs.Scripts.{script_limit}
use Rattle.opc_cli_script.proofs.Lines.{AreRead, line_at, read_more, unread}
use Rattle.opc_cli_script.proofs.script.requests_in.Goals as goal

pub returns-in_err-read_line-clause-bad : goal.returns-in_err-read_line-clause-bad
returns-in_err-read_line-clause-bad c =
    let short : nat_le (length c.args.script.now) script_limit ≡ true = grind (arith, nat_tests, c.if-script.false) in
    let line = line_at c.deref-line-items.result.now (lines c.args.script.now) c.loop-at.at _ c.loop-at.invariant.0 (omega arith) in
    let err = err_from_is_err_and c.from_residual-in_err-read_line.result c.from_residual-in_err-read_line.ensures.1 in
    rw (err.1, err.2) (unread c.args.script.now _ c.loop-at.at c.loop-at.requests.items _ short line.0 line.1
    c.loop-at.invariant.1 c.in_err-read_line.ensures.bad)

pub loop-at-preserved : goal.loop-at-preserved
loop-at-preserved c =
    let line = line_at c.deref-line-items.result.now (lines c.args.script.now) c.loop-at.at _ c.loop-at.invariant.0 (omega arith) in (
      c.loop-at.invariant.0,
      subst (AreRead (lines c.args.script.now) _) (sym c.in_ok-read_line.ensures.request)
          (read_more (lines c.args.script.now) c.loop-at.at _ c.loop-at.requests.items line.0 line.1 c.in_ok-read_line.ensures.good c.loop-at.invariant.1),
    )
