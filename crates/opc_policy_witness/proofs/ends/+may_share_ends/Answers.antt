use Rattle.std.proofs.lemmas.List.{take_rest}
use Rattle.opc_policy_witness.proofs.Meeting.{none_with_first, none_with_rest}
use Rattle.opc_policy_witness.proofs.ends.+may_share_ends.Goals as goal

pub returns-then-not-may_share_end : goal.returns-then-not-may_share_end
returns-then-not-may_share_end t c = λ e.
    none_with_first c.args.pattern.now c.other-item.result c.args.others.now c.in-len1-up.len_at_least c.other-item.is
    (c.may_share_end.ensures c.if-not-may_share_end.true)

pub returns : goal.returns
returns t c = λ e.
    none_with_rest c.args.pattern.now c.args.others.now _ c.in-len1-up.len_at_least (take_rest c.args.others.now 1) (c.may_share_ends.ensures e)
