use Rattle.std.proofs.Common.{ap, ◌∙◌}
use Rattle.sqlite.specs.Order.{Row, column}
use Rattle.opc_store_sql.proofs.Decoded.{more_returned}
use Rattle.opc_policy_members.specs.declared.connect.Connect.{Connect}
use Rattle.opc_store_schema.specs.Represented.{connect_row}
use Rattle.opc_store_users.proofs.connects.groups_in.Goals as goal

pub loop-row-preserved : goal.loop-row-preserved
loop-row-preserved c connects are =
    c.in_ok-push.ensures.items
    ∙ more_returned connect_row (λ (d : Connect). d.group) connects c.args.rows.now c.loop-row.groups.items
    c.loop-row.row-index c.row-item.result c.in_ok-name_in.field-0 are c.loop-row-test.true c.row-item.is
    (λ d is. c.in_ok-name_in.ensures d.group (ap (λ (r : Row). column r 1) is)) (c.loop-row.invariant connects are)
