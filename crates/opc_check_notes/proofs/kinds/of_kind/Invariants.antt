use Rattle.std.proofs.Common.{◌≡◌, take}
use Rattle.opc_check_notes.specs.Kinds.{of_kind}
use Rattle.opc_check_notes.proofs.kinds.of_kind.Given as goal

abbrev pub invariant-loop-at : goal.invariant-loop-at
invariant-loop-at l = l.list ≡ of_kind (take l.at-index l.rows) l.kind
