use Rattle.std.proofs.lemmas.List.{take_rest}
use Rattle.opc_policy_witness.proofs.Meeting.{none_by_first, none_by_rest}
use Rattle.opc_policy_witness.proofs.ends.+all_may_share_end.Goals as goal

pub returns-then-not-may_share_ends : goal.returns-then-not-may_share_ends
returns-then-not-may_share_ends t c = λ e.
    none_by_first c.pattern-item.result c.args.patterns.now _ c.in-len1-up.len_at_least c.pattern-item.is (take_rest c.args.patterns.now 1)
    (c.may_share_ends.ensures c.if-not-may_share_ends.true)

pub returns : goal.returns
returns t c = λ e.
    none_by_rest c.args.patterns.now _ c.in-len1-up.len_at_least (take_rest c.args.patterns.now 1) (c.all_may_share_end.ensures e)
