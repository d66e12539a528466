use Rattle.opc_cli_questions.specs.Differences.{ArePairsListed}
use Rattle.opc_cli_questions.proofs.Differences.{ArePlacesWritten}
use Rattle.opc_cli_questions.proofs.difference_printing.print_commands.Given as goal

abbrev pub invariant-loop-at : goal.invariant-loop-at
invariant-loop-at g l =
    ArePlacesWritten (ArePairsListed l.form l.compared) (g.W.Write.contents l.fn.output) (g.W.Write.contents l.output)
    l.fn.gains l.gains l.at
