use Rattle.std.proofs.Common.{length}
use Rattle.opc_reader_commands.proofs.quote.+push_folded.Given as goal

abbrev pub decreases-push_folded : goal.decreases-push_folded
decreases-push_folded l = length l.bytes.now
