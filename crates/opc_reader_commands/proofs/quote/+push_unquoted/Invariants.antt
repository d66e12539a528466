use Rattle.std.proofs.Common.{length}
use Rattle.opc_reader_commands.proofs.quote.+push_unquoted.Given as goal

abbrev pub decreases-push_unquoted : goal.decreases-push_unquoted
decreases-push_unquoted l = length l.bytes.now
