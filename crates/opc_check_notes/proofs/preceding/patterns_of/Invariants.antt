use Rattle.std.proofs.Common.{◌≡◌, ℕ, List, map, take}
use Rattle.opc_check_notes.proofs.preceding.patterns_of.Given as goal

abbrev pub invariant-loop-pair : goal.invariant-loop-pair
invariant-loop-pair l = l.list.items ≡ map (λ (p : List ℕ × List ℕ). p.1) (take l.pair-index l.pairs)
