use Rattle.std.proofs.Common.{◌∙◌, ap, map}
use Rattle.opc_policy_sources.specs.Levels.{pattern_of}
use Rattle.opc_policy_sources.proofs.Patterns.{same_patterns}
use Rattle.opc_policy_sources.proofs.levels.covering_levels.Goals as goal

pub returns-clause-patterns : goal.returns-clause-patterns
returns-clause-patterns c = ap (map pattern_of) c.in_ok-levels_in.ensures ∙ same_patterns c.in-Some.user.now _ _ _
