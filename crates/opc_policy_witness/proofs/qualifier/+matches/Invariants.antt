use Rattle.std.proofs.Common.{length}
use Rattle.opc_policy_witness.proofs.qualifier.+matches.Given as goal

abbrev pub decreases-matches : goal.decreases-matches
decreases-matches l = length l.qualifier.now
