use Rattle.opc_policy_deciders.proofs.Gathering.{none_near, one_near}
use Rattle.opc_policy_deciders.proofs.pairs.add_next.Goals as goal

pub returns-then-next-place-clause-near : goal.returns-then-next-place-clause-near
returns-then-next-place-clause-near c =
    none_near c.args.text.now c.args.patterns.now c.args.place c.place_past-next.result c.args.list.now.items c.requires.patterns
    c.place_past-next.ensures.within.0 c.place_past-next.ensures.past

pub returns-clause-near : goal.returns-clause-near
returns-clause-near c =
    one_near c.args.text.now c.args.patterns.now c.args.place c.index-patterns-place.result c.args.list.now.items c.push.new.self.items
    c.requires.place c.index-patterns-place.is c.in_ok-push.ensures.items
