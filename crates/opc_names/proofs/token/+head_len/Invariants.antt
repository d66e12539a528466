use Rattle.std.proofs.Common.{length}
use Rattle.opc_names.proofs.token.+head_len.Given as goal

abbrev pub decreases-head_len : goal.decreases-head_len
decreases-head_len l = length l.text.now
