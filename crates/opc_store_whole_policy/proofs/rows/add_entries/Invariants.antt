use Rattle.std.proofs.Common.{◌≡◌, ◌++◌, map, take}
use Rattle.opc_state.specs.PolicyFile.{row_of_entry}
use Rattle.opc_store_whole_policy.proofs.rows.add_entries.Given as goal

abbrev pub invariant-loop-entry : goal.invariant-loop-entry
invariant-loop-entry l = l.rows.items ≡ l.fn.rows.items ++ map (row_of_entry l.class l.pattern) (take l.entry-index l.entries)
