use Rattle.std.proofs.Common.{take}
use Rattle.opc_cli_questions.specs.Differences.{IsListed, logons_listed}
use Rattle.opc_cli_questions.proofs.difference_printing.print_logons_at.Given as goal

abbrev pub invariant-loop-console : goal.invariant-loop-console
invariant-loop-console g l =
    IsListed (g.W.Write.contents l.fn.output) (g.W.Write.contents l.output) l.fn.gains l.gains
    (logons_listed l.form l.compared (take l.console-index l.consoles))
