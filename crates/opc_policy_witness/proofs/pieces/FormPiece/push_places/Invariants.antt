use Rattle.std.proofs.Common.{◌≡◌, ◌++◌}
use Rattle.opc_policy_witness.specs.Forms.{name_places}
use Rattle.opc_policy_witness.proofs.pieces.FormPiece.push_places.Given as goal

abbrev pub invariant-loop-at : goal.invariant-loop-at
invariant-loop-at l = l.places.items ≡ l.initial.places.items ++ name_places l.first l.at
