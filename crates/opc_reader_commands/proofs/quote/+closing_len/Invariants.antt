use Rattle.std.proofs.Common.{length}
use Rattle.opc_reader_commands.proofs.quote.+closing_len.Given as goal

abbrev pub decreases-closing_len : goal.decreases-closing_len
decreases-closing_len l = length l.bytes.now
