use Rattle.std.proofs.Common.{◌≡◌, ◌≤◌, ◌+◌, drop}
use Rattle.opc_check.proofs.Applying.{Follows}
use Rattle.opc_check.proofs.refusing.refused_of.Given as goal

abbrev pub invariant-loop-row : goal.invariant-loop-row
invariant-loop-row l = record {
  follows : Follows l.rows (drop l.row-index l.rows) (l.number + 1) l.refused;
  few : l.refused.count ≤ l.row-index;
  count : l.number ≡ l.row-index;
}
