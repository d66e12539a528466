use Rattle.std.proofs.Common.{◌≡◌, ℕ, List, map, take}
use Rattle.opc_state.specs.declared.account.AccountRow.{AccountRow}
use Rattle.opc_store_history.specs.Loads.{numbered_shown}
use Rattle.opc_store_history.proofs.account.page_in.Given as goal

abbrev pub invariant-loop-row : goal.invariant-loop-row
invariant-loop-row l = (page : List (ℕ × AccountRow)) → l.rows ≡ map numbered_shown page → l.page.items ≡ take l.row-index page
