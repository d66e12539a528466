use Rattle.std.proofs.Common.{◌-◌, ◌^◌}
use Rattle.opc_account.proofs.Pages.{SoFar}
use Rattle.opc_account.proofs.printing.print_rows.Given as goal

abbrev pub invariant-loop-left : goal.invariant-loop-left
invariant-loop-left g l =
    SoFar g.T.Tables.meaning l.query l.first l.next l.left l.fn.tables l.tables (g.W.Write.contents l.fn.output)
    (g.W.Write.contents l.output)

abbrev pub decreases-loop-left : goal.decreases-loop-left
decreases-loop-left g l = 2 ^ 64 - l.next
