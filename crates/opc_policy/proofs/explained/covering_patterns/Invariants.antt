use Rattle.std.proofs.Common.{◌≡◌, ◌++◌, filter, length}
use Rattle.opc_policy.proofs.Listed.{patterns_from}
use Rattle.opc_policy.specs.Explained.{covering_patterns, is_covering_from}
use Rattle.opc_policy.proofs.explained.covering_patterns.Given as goal

abbrev pub invariant-loop-profile : goal.invariant-loop-profile
invariant-loop-profile l =
    l.list.items ++ patterns_from l.class l.resource l.start l.profiles ≡ covering_patterns l.class l.resource l.profiles

abbrev pub decreases-loop-profile : goal.decreases-loop-profile
decreases-loop-profile l = length (filter (is_covering_from l.class l.resource l.start) l.profiles)
