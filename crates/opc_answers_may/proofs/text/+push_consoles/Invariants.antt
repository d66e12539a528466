use Rattle.std.proofs.Common.{length}
use Rattle.opc_answers_may.proofs.text.+push_consoles.Given as goal

abbrev pub decreases-push_consoles : goal.decreases-push_consoles
decreases-push_consoles l = length l.row.now
