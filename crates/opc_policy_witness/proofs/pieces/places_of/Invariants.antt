use Rattle.std.proofs.Common.{◌≡◌, take}
use Rattle.opc_policy_witness.specs.Forms.{places}
use Rattle.opc_policy_witness.proofs.pieces.places_of.Given as goal

abbrev pub invariant-loop-piece : goal.invariant-loop-piece
invariant-loop-piece l = l.all.items ≡ places (take l.piece-index l.pieces)
