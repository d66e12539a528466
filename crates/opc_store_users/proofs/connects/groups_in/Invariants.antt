use Rattle.std.proofs.Common.{◌≡◌, map, take, List}
use Rattle.opc_policy_members.specs.declared.connect.Connect.{Connect}
use Rattle.opc_store_schema.specs.Represented.{connect_row}
use Rattle.opc_store_users.proofs.connects.groups_in.Given as goal

abbrev pub invariant-loop-row : goal.invariant-loop-row
invariant-loop-row l = (connects : List Connect) → l.rows ≡ map connect_row connects
    → l.groups.items ≡ take l.row-index (map (λ (c : Connect). c.group) connects)
