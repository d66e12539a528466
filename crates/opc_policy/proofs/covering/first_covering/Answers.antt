use Rattle.std.proofs.Common.{◌∙◌}
use Rattle.opc_policy.proofs.Listed.{first_of_all}
use Rattle.opc_policy.proofs.covering.first_covering.Goals as goal

pub returns-clause-first : goal.returns-clause-first
returns-clause-first c = c.covering_from.ensures.first ∙ first_of_all c.args.class c.args.resource.now c.args.profiles.now
