use Rattle.std.proofs.Common.{arith}
use Rattle.opc_gate_imports.proofs.PolicyRows.{consoles_more}
use Rattle.opc_gate_imports.proofs.bootstrap.define_all.Goals as goal

pub loop-row-preserved : goal.loop-row-preserved
loop-row-preserved c = consoles_more c.args.rows.now c.loop-row.row-index _ c.args.board.now _ _ (omega arith)
    c.row-item.is c.loop-row.invariant c.in_ok-define_console.ensures
