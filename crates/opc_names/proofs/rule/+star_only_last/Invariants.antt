use Rattle.std.proofs.Common.{length}
use Rattle.opc_names.proofs.rule.+star_only_last.Given as goal

abbrev pub decreases-star_only_last : goal.decreases-star_only_last
decreases-star_only_last l = length l.qualifier.now
