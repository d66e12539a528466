use Rattle.std.proofs.Common.{arith}
use Rattle.opc_policy_deciders.proofs.Alone.{one_more}
use Rattle.opc_policy_deciders.proofs.places.places_alone.Goals as goal

pub loop-place-preserved : goal.loop-place-preserved
loop-place-preserved c =
    one_more c.args.stand.now c.loop-place.place _ c.loop-place.list.items c.push_alone.new.list.items (omega arith) c.loop-place.invariant
    c.in_ok-push_alone.ensures
