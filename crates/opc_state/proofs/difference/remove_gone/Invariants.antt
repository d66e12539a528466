use Rattle.std.proofs.Common.{◌≡◌, ◌++◌, map, take}
use Rattle.opc_state.specs.Difference.{gone}
use Rattle.opc_state.proofs.difference.remove_gone.Given as goal

abbrev pub invariant-loop-row : goal.invariant-loop-row
invariant-loop-row g l =
    l.edits.items ≡ l.fn.edits.items ++ map g.R.Member.removal
    (gone (λ q r. g.R.Key.PartialEq.eq (g.R.Keyed.key_of q) (g.R.Keyed.key_of r)) (take l.row-index l.old) l.new)
