use Rattle.std.proofs.Common.{◌∙◌}
use Rattle.opc_policy.proofs.InOrder.{find-decides}
use Rattle.opc_policy.proofs.explained.decided.Goals as goal

pub returns : goal.returns
returns c = c.first_covering.ensures.first ∙ find-decides c.args.class c.args.resource.now c.args.profiles.now c.first_covering.ensures.in_order
