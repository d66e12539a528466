use Rattle.std.proofs.Common.{length}
use Rattle.opc_cli_commands.proofs.row.+push_rows.Given as goal

abbrev pub decreases-push_rows : goal.decreases-push_rows
decreases-push_rows l = length l.forms.now
