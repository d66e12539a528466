use Rattle.std.proofs.Common.{arith}
use Rattle.opc_gate_imports.proofs.PolicyRows.{edits_more}
use Rattle.opc_gate_imports.proofs.bootstrap.add_edits.Goals as goal

pub loop-row-preserved : goal.loop-row-preserved
loop-row-preserved c = edits_more c.args.rows.now c.loop-row.row-index c.row-item.result _ _ _ _ (omega arith)
    c.row-item.is c.loop-row.invariant c.edit_of.ensures c.in_ok-add_any.ensures
