use Rattle.std.proofs.Common.{◌∙◌, arith}
use Rattle.sqlite.specs.declared.error.Error.{Error}
use Rattle.opc_store_sql.proofs.StepsInOrder.{stays_then}
use Rattle.opc_store_schema.proofs.EditsInOrder.{next_turn}
use Rattle.opc_store_commit.proofs.commit.apply_all.Goals as goal

pub loop-edit-preserved : goal.loop-edit-preserved
loop-edit-preserved g c =
    let was = c.loop-edit.invariant in
    let now = c.in_ok-apply.ensures in (
      now.same_reference ∙ was.0,
      stays_then g.S.Store _ _ Error Error tt tt _ c.loop-edit.tx.conn.now c.apply.new.tx.conn.now was.1 now.stays,
      λ clean s sees. next_turn c.args.edits.now c.loop-edit.edit-index c.edit-item.result _ _ _ (omega arith)
          c.edit-item.is (was.2 (omega (arith, now.stays.survives.clean)) s sees) (now.done clean),
    )
