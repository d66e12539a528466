use Rattle.std.proofs.Common.{length}
use Rattle.opc_names.proofs.spellings.+spelled_in.Given as goal

abbrev pub decreases-spelled_in : goal.decreases-spelled_in
decreases-spelled_in g l = length l.table.now
