use Rattle.std.proofs.Common.{◌≡◌, take}
use Rattle.opc_rows.proofs.rows.Rows.from_slice.Given as goal

abbrev pub invariant-loop-row : goal.invariant-loop-row
invariant-loop-row g l = l.copy ≡ take l.row-index l.rows
