use Rattle.std.proofs.Common.{◌≡◌, ◌≤◌}
use Rattle.opc_import.specs.Files.{after_rows, policy_of, rows_from}
use Rattle.opc_import.proofs.read.read_policy.Given as goal

abbrev pub invariant-loop-number : goal.invariant-loop-number
invariant-loop-number l = (policy_of l.fn.text ≡ after_rows l.rows.items (rows_from l.width l.number l.records)) × (l.number ≤ 10001)
