use Rattle.opc_policy_witness.proofs.Joining.{places_more}
use Rattle.opc_policy_witness.proofs.pieces.places_of.Goals as goal

pub loop-piece-preserved : goal.loop-piece-preserved
loop-piece-preserved c =
    places_more c.args.pieces.now c.loop-piece.piece-index _ c.loop-piece.all.items c.push_places.new.places.items
    c.loop-piece-test.true c.in_ok-push_places.ensures c.loop-piece.invariant
