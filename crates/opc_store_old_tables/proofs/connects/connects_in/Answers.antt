use Rattle.std.proofs.Common.{◌∙◌, ap}
use Rattle.opc_store_sql.proofs.Decoded.{more_returned}
use Rattle.opc_policy_members.specs.declared.connect.Connect.{Connect}
use Rattle.opc_state.specs.declared.change.Edit.{Edit}
use Rattle.opc_state.specs.declared.change.Edit.TheVariants as edit
use Rattle.opc_store_schema.specs.Represented.{connect_row}
use Rattle.opc_store_old_tables.proofs.connects.connects_in.Goals as goal

pub loop-row-preserved : goal.loop-row-preserved
loop-row-preserved c connects are =
    c.in_ok-push.ensures.items
    ∙ more_returned connect_row (λ (x : Connect). edit.PutConnect x) connects c.args.rows.now c.loop-row.puts.items
    c.loop-row.row-index c.row-item.result (edit.PutConnect c.in_ok-connect_in.field-0) are c.loop-row-test.true
    c.row-item.is
    (λ x here. ap (λ (y : Connect). let e : Edit = edit.PutConnect y in e) (c.in_ok-connect_in.ensures x here)) (c.loop-row.invariant connects are)
