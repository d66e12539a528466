use Rattle.std.proofs.Common.{arith, inl, inr}
use Rattle.opc_policy_deciders.proofs.Candidate.{none_passed}
use Rattle.opc_policy_deciders.proofs.places.candidate_of.Goals.{else-from-own-via-then-from-own+else-own-near, else-from-own-via-else-from-own}
use Rattle.opc_policy_deciders.proofs.places.candidate_of.Goals as goal

pub returns-then-own-near-clause-none : goal.returns-then-own-near-clause-none
returns-then-own-near-clause-none c =
    let here = c.if-own-near.true in
    let high = c.place_near-near.ensures.within.1 in
    none_passed c.args.pattern.now c.args.stands c.args.others.now c.args.others_stand.now c.place_from-own.result c.args.from
    c.place_near-near.result c.requires.pattern c.requires.others c.requires.in_order
    (rw (c.as_slice.ensures.value, c.sort_key-key.ensures.key) at c.place_from-own.ensures.below)
    (rw (c.as_slice.ensures.value, c.sort_key-key.ensures.key) at c.place_from-own.ensures.others)
    (rw (c.as_bytes-head.ensures.value, c.head.ensures) at c.place_near-near.ensures.passed)
    c.place_from-own.result (omega (arith, here)) (omega (arith, here, high)) (λ k low less. inl less)

pub returns-else-from-own-clause-none : goal.returns-else-from-own-clause-none
returns-else-from-own-clause-none c =
    let within = c.place_near-near.ensures.within in
    none_passed c.args.pattern.now c.args.stands c.args.others.now c.args.others_stand.now c.place_from-own.result c.args.from
    c.place_near-near.result c.requires.pattern c.requires.others c.requires.in_order
    (rw (c.as_slice.ensures.value, c.sort_key-key.ensures.key) at c.place_from-own.ensures.below)
    (rw (c.as_slice.ensures.value, c.sort_key-key.ensures.key) at c.place_from-own.ensures.others)
    (rw (c.as_bytes-head.ensures.value, c.head.ensures) at c.place_near-near.ensures.passed)
    c.place_near-near.result (omega arith) within.1 (elim c.else-from-own.branch [
      | else-from-own-via-then-from-own+else-own-near w ↦ (let far = w.if-own-near.false in λ k low less. inl (omega (arith, far, less)))
      | else-from-own-via-else-from-own w ↦ (let early = w.if-from-own.false in λ k low less. inr (omega (arith, early, low)))
    ])
