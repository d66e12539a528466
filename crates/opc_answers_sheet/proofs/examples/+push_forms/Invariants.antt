use Rattle.std.proofs.Common.{length}
use Rattle.opc_answers_sheet.proofs.examples.+push_forms.Given as goal

abbrev pub decreases-push_forms : goal.decreases-push_forms
decreases-push_forms l = length l.forms.now
