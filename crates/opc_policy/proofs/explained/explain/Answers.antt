use Rattle.opc_policy.proofs.explained.explain.Goals as goal

pub returns-clause-in_order : goal.returns-clause-in_order
returns-clause-in_order c = rw c.in_ok-covering.ensures.patterns c.in_ok-covering.ensures.in_order
