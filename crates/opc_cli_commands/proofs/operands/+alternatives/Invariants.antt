use Rattle.std.proofs.Common.{length}
use Rattle.opc_cli_commands.proofs.operands.+alternatives.Given as goal

abbrev pub decreases-alternatives : goal.decreases-alternatives
decreases-alternatives l = length l.texts.now
