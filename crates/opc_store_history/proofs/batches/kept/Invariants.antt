use Rattle.std.proofs.Common.{◌≡◌, length, take}
use Rattle.opc_store_history.proofs.batches.kept.Given as goal

abbrev pub invariant-loop-row : goal.invariant-loop-row
invariant-loop-row g l = l.rows ≡ take (length l.yielded) l.fn.list.items
