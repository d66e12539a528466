use Rattle.std.proofs.Common.{◌≡◌, map, take, List}
use Rattle.opc_policy_members.specs.declared.user.User.{User}
use Rattle.opc_store_schema.specs.Represented.{user_row}
use Rattle.opc_store_old_tables.specs.Read.{user_puts}
use Rattle.opc_store_old_tables.proofs.users.users_in.Given as goal

abbrev pub invariant-loop-row : goal.invariant-loop-row
invariant-loop-row l = (users : List User) → l.rows ≡ map user_row users → l.puts.items ≡ take l.row-index (user_puts users)
