use Rattle.std.proofs.Common.{◌≡◌, ◌++◌, take}
use Rattle.opc_gate_imports.specs.RowEdits.{edits_of}
use Rattle.opc_gate_imports.proofs.bootstrap.add_edits.Given as goal

abbrev pub invariant-loop-row : goal.invariant-loop-row
invariant-loop-row l = l.edits.items ≡ l.fn.edits.items ++ edits_of (take l.row-index l.rows)
