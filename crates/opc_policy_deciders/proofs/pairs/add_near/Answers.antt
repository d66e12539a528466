use Rattle.std.proofs.Common.{arith}
use Rattle.opc_policy_deciders.proofs.Gathering.{near_in_the_end, near_itself}
use Rattle.opc_policy_deciders.proofs.pairs.add_near.Goals as goal

pub loop-place-init : goal.loop-place-init
loop-place-init c = near_itself c.args.text.now c.args.list.now.items c.args.patterns.now

pub loop-place-preserved : goal.loop-place-preserved
loop-place-preserved c = c.in_ok-place.ensures.near c.args.list.now.items c.loop-place.invariant

pub returns : goal.returns
returns c =
    near_in_the_end c.args.text.now c.loop-place.list.items c.args.list.now.items c.args.patterns.now c.loop-place.place (omega arith)
    c.loop-place.invariant
