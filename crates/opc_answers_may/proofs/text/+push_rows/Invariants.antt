use Rattle.std.proofs.Common.{length}
use Rattle.opc_answers_may.proofs.text.+push_rows.Given as goal

abbrev pub decreases-push_rows : goal.decreases-push_rows
decreases-push_rows l = length l.logons.now
