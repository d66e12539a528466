use Rattle.std.proofs.Common.{sym, ◌∙◌, rules}
use Rattle.opc_policy_deciders.proofs.Finding.{are_active, are_inactive}
use Rattle.opc_policy_deciders.proofs.decided.patterns_of.Goals as goal

pub returns-then-contains : goal.returns-then-contains
returns-then-contains c =
    are_active c.args.policy.now c.in_ok-patterns.patterns.items c.patterns_among.ensures.profiles c.patterns_among.ensures.in_order
    (sym c.contains.ensures ∙ c.if-contains.true) c.in_ok-patterns.ensures.all

pub returns-else-contains : goal.returns-else-contains
returns-else-contains c =
    are_inactive c.args.policy.now _ c.patterns_among.ensures.in_order (sym c.contains.ensures ∙ c.if-contains.false) (search rules)
