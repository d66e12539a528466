use Rattle.std.proofs.Common.{◌∙◌}
use Rattle.opc_policy.proofs.InOrder.{find-decides}
use Rattle.opc_answers.proofs.deciding.most_specific.Goals as goal

pub returns : goal.returns
returns c = c.first_covering.ensures.first ∙ find-decides c.args.class c.args.resource.now c.args.profiles.now c.first_covering.ensures.in_order
