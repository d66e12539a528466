use Rattle.std.proofs.Common.{◌≡◌, ◌∙◌, ap, Ok}
use Rattle.opc_import.specs.Files.{policy_of}
use Rattle.opc_state.specs.declared.change.Batch.{Batch}
use Rattle.opc_state.specs.declared.change.Edit.{Edit}
use Rattle.opc_state.specs.declared.change.Edit.TheVariants as edit
use Rattle.opc_store_old_tables.specs.Read.{batch_shown}
use Rattle.opc_store_old_tables.proofs.BatchLoads.{more_of}
use Rattle.opc_store_old_tables.proofs.batches.batches_in.Goals as goal

pub loop-row-preserved : goal.loop-row-preserved
loop-row-preserved c text_of batches said are =
    c.in_ok-push.ensures.items
    ∙ more_of (λ (b : Batch). policy_of (text_of b) ≡ Ok b.rows) (batch_shown text_of) (λ (b : Batch). edit.PutBatch b)
    batches said c.args.rows.now c.loop-row.puts.items c.loop-row.row-index c.row-item.result
    (edit.PutBatch c.in_ok-batch_in.field-0) are c.loop-row-test.true c.row-item.is
    (λ b here means. ap (λ (x : Batch). let e : Edit = edit.PutBatch x in e)
    (c.in_ok-batch_in.ensures b text_of means here)) (c.loop-row.invariant text_of batches said are)
