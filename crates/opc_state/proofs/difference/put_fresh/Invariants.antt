use Rattle.std.proofs.Common.{◌≡◌, ◌++◌, map, take}
use Rattle.opc_state.specs.Difference.{fresh}
use Rattle.opc_state.proofs.difference.put_fresh.Given as goal

abbrev pub invariant-loop-row : goal.invariant-loop-row
invariant-loop-row g l =
    l.edits.items ≡ l.fn.edits.items ++ map g.R.Member.put
    (fresh (λ q r. g.R.Key.PartialEq.eq (g.R.Keyed.key_of q) (g.R.Keyed.key_of r)) g.R.Member.is_same l.old
    (take l.row-index l.new))
