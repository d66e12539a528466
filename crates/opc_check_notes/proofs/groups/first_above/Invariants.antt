use Rattle.std.proofs.Common.{◌≡◌, ℕ, List, None, take}
use Rattle.opc_check_notes.specs.First.{first_of}
use Rattle.opc_check_notes.specs.Notes.{group_above}
use Rattle.opc_check_notes.proofs.groups.first_above.Given as goal

abbrev pub invariant-loop-pair : goal.invariant-loop-pair
invariant-loop-pair l = first_of (λ (p : List ℕ × List ℕ). group_above l.known l.row p.1) (take l.pair-index l.groups) ≡ None
