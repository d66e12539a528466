use Rattle.std.specs.Fn.{FnReturns}
use Rattle.opc_rows.proofs.Each.{IsChangedUpTo}
use Rattle.opc_rows.proofs.rows.Rows.change_all.Given as goal

-- the rows before the index are changed, and the others are as they were
abbrev pub invariant-loop-row : goal.invariant-loop-row
invariant-loop-row g l = IsChangedUpTo (λ old new. FnReturns g.F.Fn l.change (old, tt) new) l.row-index l.initial.row-items l.row-items
