use Rattle.std.proofs.Common.{◌∙◌, ap}
use Rattle.opc_store_sql.proofs.Decoded.{more_returned}
use Rattle.opc_policy_members.specs.declared.user.User.{User}
use Rattle.opc_state.specs.declared.change.Edit.{Edit}
use Rattle.opc_state.specs.declared.change.Edit.TheVariants as edit
use Rattle.opc_store_schema.specs.Represented.{user_row}
use Rattle.opc_store_old_tables.proofs.users.users_in.Goals as goal

pub loop-row-preserved : goal.loop-row-preserved
loop-row-preserved c users are =
    c.in_ok-push.ensures.items
    ∙ more_returned user_row (λ (x : User). edit.PutUser x) users c.args.rows.now c.loop-row.puts.items c.loop-row.row-index
    c.row-item.result (edit.PutUser c.in_ok-user_in.field-0) are c.loop-row-test.true c.row-item.is
    (λ x here. ap (λ (y : User). let e : Edit = edit.PutUser y in e) (c.in_ok-user_in.ensures x here)) (c.loop-row.invariant users are)
