use Rattle.std.proofs.Common.{◌≡◌, map, take, List}
use Rattle.opc_policy_members.specs.declared.connect.Connect.{Connect}
use Rattle.opc_store_schema.specs.Represented.{connect_row}
use Rattle.opc_store_old_tables.specs.Read.{connect_puts}
use Rattle.opc_store_old_tables.proofs.connects.connects_in.Given as goal

abbrev pub invariant-loop-row : goal.invariant-loop-row
invariant-loop-row l = (connects : List Connect) → l.rows ≡ map connect_row connects → l.puts.items ≡ take l.row-index (connect_puts connects)
