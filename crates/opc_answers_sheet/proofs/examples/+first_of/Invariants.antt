use Rattle.std.proofs.Common.{length}
use Rattle.opc_answers_sheet.proofs.examples.+first_of.Given as goal

abbrev pub decreases-first_of : goal.decreases-first_of
decreases-first_of l = length l.forms.now
