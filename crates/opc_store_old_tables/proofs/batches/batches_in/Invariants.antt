use Rattle.std.proofs.Common.{◌≡◌, ℕ, map, take, List}
use Rattle.opc_state.specs.declared.change.Batch.{Batch}
use Rattle.opc_store_old_tables.specs.Read.{AreSaid, batch_shown, batch_puts}
use Rattle.opc_store_old_tables.proofs.batches.batches_in.Given as goal

abbrev pub invariant-loop-row : goal.invariant-loop-row
invariant-loop-row l = (text_of : Batch → List ℕ) → (batches : List Batch) → AreSaid text_of batches
    → l.rows ≡ map (batch_shown text_of) batches → l.puts.items ≡ take l.row-index (batch_puts batches)
