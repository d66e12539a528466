use Rattle.std.proofs.Common.{length}
use Rattle.opc_cli_commands.proofs.verbs.+row_with.Given as goal

abbrev pub decreases-row_with : goal.decreases-row_with
decreases-row_with l = length l.rows.now
