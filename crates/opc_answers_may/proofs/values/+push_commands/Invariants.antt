use Rattle.std.proofs.Common.{length}
use Rattle.opc_answers_may.proofs.values.+push_commands.Given as goal

abbrev pub decreases-push_commands : goal.decreases-push_commands
decreases-push_commands l = length l.forms.now
