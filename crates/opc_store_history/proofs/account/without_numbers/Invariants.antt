use Rattle.std.proofs.Common.{◌≡◌, ℕ, length, map, take}
use Rattle.opc_state.specs.declared.account.AccountRow.{AccountRow}
use Rattle.opc_store_history.proofs.account.without_numbers.Given as goal

abbrev pub invariant-loop-numbered : goal.invariant-loop-numbered
invariant-loop-numbered l = l.rows ≡ take (length l.yielded) (map (λ (p : ℕ × AccountRow). p.1) l.fn.page.items)
