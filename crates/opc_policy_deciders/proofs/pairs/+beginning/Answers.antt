use Rattle.std.proofs.lemmas.List.{take_rest}
use Rattle.opc_policy_deciders.proofs.Gathering.{with_head}
use Rattle.opc_policy_deciders.proofs.pairs.+beginning.Goals as goal

pub returns : goal.returns
returns t c =
    with_head c.args.include.now _ c.pattern-item.result c.longer.result.now c.beginning.result.now c.requires c.in-len1-up.len_at_least
    c.pattern-item.is (take_rest c.args.include.now 1) (rw (c.as_bytes.ensures.value, c.head.ensures) at c.longer.ensures) c.beginning.ensures
