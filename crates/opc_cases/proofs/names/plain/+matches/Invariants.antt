use Rattle.std.proofs.Common.{length}
use Rattle.opc_cases.proofs.names.plain.+matches.Given as goal

abbrev pub decreases-matches : goal.decreases-matches
decreases-matches l = length l.qualifier.now
