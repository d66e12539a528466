use Rattle.opc_policy_deciders.proofs.Differing.{past}
use Rattle.opc_policy_deciders.proofs.places.place_past.Goals as goal

pub returns-in-Some-clause-past : goal.returns-in-Some-clause-past
returns-in-Some-clause-past c =
    past c.args.text.now c.args.patterns.now c.args.place c.place_from.result c.index-patterns-place.result c.in-Some.key c.requires.in_order
    c.requires.place c.place_from.ensures.within.1 c.index-patterns-place.is (rw c.sort_key.ensures.key at c.in-Some.ensures.itself)
    (rw c.sort_key.ensures.key at c.in-Some.ensures.later)
    (rw c.as_slice.ensures.value at c.place_from.ensures.below)
