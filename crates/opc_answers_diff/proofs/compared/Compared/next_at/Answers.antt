use Rattle.opc_policy_deciders.proofs.Gathering.{are_in_order}
use Rattle.opc_answers_diff.proofs.compared.Compared.next_at.Goals as goal

pub next_candidate-requires-clause-in_order : goal.next_candidate-requires-clause-in_order
next_candidate-requires-clause-in_order c =
    rw c.as_slice-others.ensures.value (are_in_order c.args.self.now.after.policy c.args.self.now.others.items c.requires.compared.others)

pub returns-clause-none : goal.returns-clause-none
returns-clause-none c = λ place low high.
    (rw (c.as_slice-patterns.ensures.value, c.as_slice-others.ensures.value) at c.next_candidate.ensures.none)
    c.args.self.now.before.policy c.args.self.now.after.policy c.requires.compared.patterns c.requires.compared.others place low high
