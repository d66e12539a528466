use Rattle.std.proofs.Common.{length}
use Rattle.opc_cli_commands.proofs.operands.+push_operands.Given as goal

abbrev pub decreases-push_operands : goal.decreases-push_operands
decreases-push_operands l = length l.forms.now
