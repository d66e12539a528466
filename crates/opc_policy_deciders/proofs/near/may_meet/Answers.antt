use Rattle.std.proofs.lemmas.Bool.Decides.{Decides-eqb}
use Rattle.std.proofs.lemmas.Slice.Eq.{starts_is}
use Rattle.opc_policy_deciders.proofs.Covering.{none_in_common}
use Rattle.opc_policy_deciders.proofs.near.may_meet.Goals as goal

pub returns : goal.returns
returns c = λ fails.
    let head = c.as_bytes-head.result.now in
    let other = c.as_bytes-other_head.result.now in
    let first = starts_is Decides-eqb head other c.starts_with.result c.starts_with.ensures.value in
    let second = starts_is Decides-eqb other head c.starts_with-2.result c.starts_with-2.ensures.value in
    none_in_common c.args.pattern.now c.args.other.now c.starts_with.result c.starts_with-2.result c.requires.pattern c.requires.other
    (λ rest e. first.1 rest (let k = e in cc)) (λ rest e. second.1 rest (let k = e in cc)) c.if-starts_with.false fails
