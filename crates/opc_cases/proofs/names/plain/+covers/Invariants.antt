use Rattle.std.proofs.Common.{length, ◌+◌}
use Rattle.opc_cases.proofs.names.plain.+covers.Given as goal

abbrev pub decreases-covers : goal.decreases-covers
decreases-covers l = length l.pattern.now + length l.name.now
