use Rattle.std.proofs.Common.{◌∙◌}
use Rattle.opc_check.proofs.Applying.{kept_so, refusal_so}
use Rattle.opc_check.proofs.refusing.Refused.apply.Goals as goal

pub returns-clause-policy : goal.returns-clause-policy
returns-clause-policy c = c.in_ok-add_if.ensures.policy ∙ kept_so c.args.row.now c.args.self.now.policy _ _ c.in_ok-fault.ensures

pub returns-clause-count : goal.returns-clause-count
returns-clause-count c = rw (refusal_so c.args.number c.args.row.now c.args.self.now.policy _ _ c.in_ok-fault.ensures) at c.in_ok-add_if.ensures.count

pub returns-clause-problems : goal.returns-clause-problems
returns-clause-problems c = rw (refusal_so c.args.number c.args.row.now c.args.self.now.policy _ _ c.in_ok-fault.ensures) at c.in_ok-add_if.ensures.problems
