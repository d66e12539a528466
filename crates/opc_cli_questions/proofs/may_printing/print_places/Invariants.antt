use Rattle.opc_cli_questions.specs.MayPrinted.{ArePlacesWritten}
use Rattle.opc_cli_questions.proofs.may_printing.print_places.Given as goal

abbrev pub invariant-loop-place : goal.invariant-loop-place
invariant-loop-place g l =
    ArePlacesWritten l.form l.allowed l.may (g.W.Write.contents l.fn.output) (g.W.Write.contents l.output) l.place
