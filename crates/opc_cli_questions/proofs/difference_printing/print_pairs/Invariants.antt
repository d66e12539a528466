use Rattle.std.proofs.Common.{◌-◌, ◌≤◌, length}
use Rattle.opc_cli_questions.specs.Differences.{IsPairListed}
use Rattle.opc_cli_questions.proofs.Differences.{ArePlacesWritten}
use Rattle.opc_cli_questions.proofs.difference_printing.print_pairs.Given as goal

abbrev pub invariant-loop-other_at : goal.invariant-loop-other_at
invariant-loop-other_at g l =
    (l.other_at ≤ length l.compared.others.items)
    × ArePlacesWritten (IsPairListed l.form l.compared l.at) (g.W.Write.contents l.fn.output) (g.W.Write.contents l.output)
    l.fn.gains l.gains l.other_at

abbrev pub decreases-loop-other_at : goal.decreases-loop-other_at
decreases-loop-other_at g l = length l.compared.others.items - l.other_at
