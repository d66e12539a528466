use Rattle.std.proofs.Common.{◌≡◌, ℕ, List, map, take}
use Rattle.opc_check_notes.specs.Ranked.{first_ranked}
use Rattle.opc_check_notes.specs.declared.entries.EntryPlace.{EntryPlace}
use Rattle.opc_check_notes.proofs.groups.first_ranked.Given as goal

abbrev pub invariant-loop-pair : goal.invariant-loop-pair
invariant-loop-pair l =
    l.first ≡ first_ranked l.known l.row l.user (map (λ (p : EntryPlace × List ℕ). p.1) (take l.pair-index l.groups))
