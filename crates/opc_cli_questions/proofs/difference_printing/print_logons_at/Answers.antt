use Rattle.std.proofs.Common.{arith, ap, subst, sym}
use Rattle.opc_cli_questions.specs.Differences.{IsListed}
use Rattle.opc_cli_questions.proofs.Differences.{logons_more, nothing_listed}
use Rattle.opc_cli_questions.proofs.difference_printing.print_logons_at.Goals as goal

pub loop-console-init : goal.loop-console-init
loop-console-init g c = nothing_listed (g.W.Write.contents c.args.output.now) c.args.gains.now

pub loop-console-preserved : goal.loop-console-preserved
loop-console-preserved g c =
    logons_more c.args.form c.args.compared.now c.args.consoles.now c.loop-console.console-index
    c.console-item.result (omega arith) c.console-item.is _ _ _ _ _ _ c.loop-console.invariant c.in_ok-print_logon.ensures.text
